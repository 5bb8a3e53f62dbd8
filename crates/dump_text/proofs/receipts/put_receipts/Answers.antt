use Rattle.std.proofs.Common.{Bool, sym, subst}
use Rattle.dump_text.specs.Dump.{receipts_text}
use Rattle.dump_text.specs.Pages.{Puts}
use Rattle.dump_text.proofs.PageLemmas.{chain}
use Rattle.dump_text.proofs.receipts.put_receipts.Goals as goal

pub returns-then-receipts : goal.returns-then-receipts
returns-then-receipts g c =
    subst (λ (b : Bool). Puts g.K.Sink.written g.K.Sink.faults c.args.page.now c.put_sections.new.page (receipts_text b c.args.sections.now)) (sym c.if-receipts.true)
    (chain c.put.ensures c.put_sections.ensures)
