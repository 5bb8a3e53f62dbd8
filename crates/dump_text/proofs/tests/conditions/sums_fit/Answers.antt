use Rattle.std.proofs.Common.{List, ap, ◌∙◌}
use Rattle.acct_base.specs.declared.amount.Amount.{Amount}
use Rattle.acct_base.specs.declared.amount.Row.{Row}
use Rattle.acct_base.specs.Amounts.{plus}
use Rattle.shelf.specs.Shelved.{Phases}
use Rattle.shelf.specs.Phases.{snapshot_rows}
use Rattle.dump_text.proofs.ConditionLemmas.{all_amounts, sums_have_room}
use Rattle.dump_text.proofs.tests.conditions.sums_fit.Goals as goal

pub returns : goal.returns
returns c =
    let r = c.args.report.now in
    let ended = c.in_ok-ended.ended in
    let all = c.in_ok-all.all in
    sums_have_room r.shelf.phases r.live ended all c.in_ok-sum_of.field-0
    (c.in_ok-ended.ensures ∙ ap (λ (ps : Phases). all_amounts (snapshot_rows ps)) c.phases.ensures)
    (c.in_ok-all.ensures ∙ ap (λ (rows : List Row). plus ended (all_amounts rows)) c.as_slice.ensures)
    (c.in_ok-sum_of.ensures.value ∙ ap (λ (a : Amount). plus all a) c.zero.ensures)
    c.in_ok-sum_of.ensures.room
