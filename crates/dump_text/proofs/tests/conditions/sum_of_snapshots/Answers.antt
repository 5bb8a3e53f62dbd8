use Rattle.std.proofs.Common.{◌∙◌}
use Rattle.acct_base.specs.Amounts.{plus}
use Rattle.dump_text.proofs.ConditionLemmas.{all_amounts, snapshot_amounts_more}
use Rattle.dump_text.proofs.tests.conditions.sum_of_snapshots.Goals as goal

pub loop-phase-preserved : goal.loop-phase-preserved
loop-phase-preserved c =
    c.in_ok-sum.ensures ∙ (λ j. plus (c.loop-phase.invariant j) (all_amounts (c.as_slice.ensures j)))
    ∙ snapshot_amounts_more c.args.phases.now c.loop-phase.phase-index c.phase-item.result c.loop-phase-test.true c.phase-item.is
