use Rattle.std.proofs.Common.{◌≡◌, ℕ, get_or, sym, arith}
use Rattle.std.proofs.lemmas.Option.{get_or_from_slice_get}
use Rattle.acct_base.specs.declared.receipt.LineReceipt.{LineReceipt}
use Rattle.dump_text.specs.Dump.{receipt_text}
use Rattle.dump_text.proofs.PageLemmas.{puts_item}
use Rattle.dump_text.proofs.receipts.put_lane.Goals as goal

pub loop-place-preserved : goal.loop-place-preserved
loop-place-preserved g c =
    let line : ℕ × LineReceipt = (c.in-Some.line, c.in-Some.receipt) in
    let got : get_or c.args.lane.now c.loop-place.place line ≡ line = get_or_from_slice_get c.args.lane.now c.loop-place.place line line (sym c.in-Some.ensures) in
    puts_item receipt_text c.args.lane.now c.loop-place.place line (omega (arith, c.loop-place-test.true, c.len-place-end.ensures)) (sym got) c.loop-place.invariant c.put_receipt.ensures
