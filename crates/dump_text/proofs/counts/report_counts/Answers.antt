use Rattle.std.proofs.Common.{◌≡◌, ◌∙◌, ◌≤◌, ◌^◌, List, length, ap, sym, subst, rules}
use Rattle.shelf.specs.declared.report.SectionOut.{SectionOut}
use Rattle.shelf.specs.declared.counts.CallCounts.{CallCounts}
use Rattle.shelf.specs.Counted.{counts_together, AreTooMany}
use Rattle.dump_text.specs.Dump.{section_receipts, receipts_of}
use Rattle.dump_text.proofs.CountLemmas.{counts_more, more_fits, part_is_few, where_err}
use Rattle.dump_text.proofs.counts.report_counts.Goals as goal

pub loop-section-preserved : goal.loop-section-preserved
loop-section-preserved c =
    counts_more section_receipts c.as_slice-section-items.result.now c.loop-section.section-index c.section-item.result c.loop-section.sum c.in_ok-sum.sum c.loop-section-test.true c.section-item.is c.loop-section.invariant
    (c.in_ok-sum.ensures.sum ∙ ap (λ (t : CallCounts). counts_together c.loop-section.sum t) c.in_ok-section_counts.ensures.sum)

pub returns-in_err-section_counts-clause-fails : goal.returns-in_err-section_counts-clause-fails
returns-in_err-section_counts-clause-fails c =
    let same : c.as_slice-section-items.result.now ≡ c.args.report.now.sections = search rules in
    let many : AreTooMany (receipts_of c.args.report.now.sections) = λ few. c.in_err-section_counts.ensures.fails (part_is_few section_receipts c.as_slice-section-items.result.now c.loop-section.section-index c.section-item.result c.loop-section-test.true c.section-item.is (subst (λ (x : List SectionOut). length (receipts_of x) ≤ 2 ^ 62) (sym same) few)) in
    where_err _ _ many

pub returns-in_err-sum-clause-fails : goal.returns-in_err-sum-clause-fails
returns-in_err-sum-clause-fails c =
    let same : c.as_slice-section-items.result.now ≡ c.args.report.now.sections = search rules in
    let many : AreTooMany (receipts_of c.args.report.now.sections) = λ few. c.in_err-sum.ensures.fails (more_fits section_receipts c.as_slice-section-items.result.now c.loop-section.section-index c.section-item.result c.loop-section.sum _ c.loop-section-test.true c.section-item.is c.loop-section.invariant
    c.in_ok-section_counts.ensures.sum (subst (λ (x : List SectionOut). length (receipts_of x) ≤ 2 ^ 62) (sym same) few)) in
    where_err _ _ many
