use Rattle.std.proofs.Common.{◌≡◌, ◌∙◌, ◌≤◌, ◌^◌, ℕ, List, length, ap, sym, subst, rules}
use Rattle.std.specs.List.{flat_map}
use Rattle.acct_base.specs.declared.receipt.LineReceipt.{LineReceipt}
use Rattle.shelf.specs.declared.counts.CallCounts.{CallCounts}
use Rattle.shelf.specs.Counted.{counts_together, AreTooMany}
use Rattle.dump_text.specs.Dump.{section_receipts}
use Rattle.dump_text.proofs.CountLemmas.{counts_more, more_fits, where_err}
use Rattle.dump_text.proofs.counts.section_counts.Goals as goal

pub loop-lane-preserved : goal.loop-lane-preserved
loop-lane-preserved c =
    counts_more (λ lane. lane) c.as_slice-lane-items.result.now c.loop-lane.lane-index c.lane-item.result c.loop-lane.sum c.in_ok-sum.sum c.loop-lane-test.true c.lane-item.is c.loop-lane.invariant
    (c.in_ok-sum.ensures.sum ∙ ap (λ (t : CallCounts). counts_together c.loop-lane.sum t) c.counts.ensures)

pub returns-in_err-sum-clause-fails : goal.returns-in_err-sum-clause-fails
returns-in_err-sum-clause-fails c =
    let same : c.as_slice-lane-items.result.now ≡ c.args.section.now.lanes = search rules in
    let many : AreTooMany (section_receipts c.args.section.now) = λ few. c.in_err-sum.ensures.fails (more_fits (λ lane. lane) c.as_slice-lane-items.result.now c.loop-lane.lane-index c.lane-item.result c.loop-lane.sum _ c.loop-lane-test.true c.lane-item.is c.loop-lane.invariant
    c.counts.ensures (subst (λ (x : List (List (ℕ × LineReceipt))). length (flat_map (λ lane. lane) x) ≤ 2 ^ 62) (sym same) few)) in
    where_err _ _ many
