use Rattle.std.proofs.Common.{ap, ◌∙◌, arith}
use Rattle.std.proofs.lemmas.List.{take_all}
use Rattle.acct_base.specs.declared.amount.Amount.{Amount}
use Rattle.acct_base.specs.Amounts.{plus, total_by}
use Rattle.replay_main.specs.Summary.{row_amount}
use Rattle.replay_main.proofs.Totals.{snapshot_total, total_step, total_kept, if_ok}
use Rattle.replay_main.proofs.summary.report_sum.Goals as goal

pub loop-snapshot-preserved : goal.loop-snapshot-preserved
loop-snapshot-preserved c =
    let f = row_amount c.args.tagged in
    total_step (snapshot_total f) c.phases-snapshot-items.result.now c.loop-snapshot.snapshot-index c.loop-snapshot-item.result c.loop-snapshot.sum c.in_ok-sum.sum c.loop-snapshot-test.true
    c.loop-snapshot-item.is c.loop-snapshot.invariant
    (c.in_ok-sum.ensures ∙ ap (λ (a : Amount). plus c.loop-snapshot.sum a) (c.in_ok-rows.ensures ∙ ap (total_by f) c.as_slice.ensures))

pub returns : goal.returns
returns c =
    let f = row_amount c.args.tagged in
    let items = c.phases-snapshot-items.result.now in
    let ended = c.loop-snapshot.invariant ∙ ap (total_by (snapshot_total f)) (take_all c.loop-snapshot.snapshot-index items (omega (arith, c.loop-snapshot-test.false)) ∙ c.phases-snapshot-items.ensures) in
    let live = c.in_ok-live.ensures ∙ ap (total_by f) c.as_slice-2.ensures in
    if_ok _ (λ s is. total_kept f c.args.report.now.shelf.phases c.args.report.now.live c.loop-snapshot.sum s ended (is ∙ ap (plus c.loop-snapshot.sum) live)) c.amounts_together-2.ensures
