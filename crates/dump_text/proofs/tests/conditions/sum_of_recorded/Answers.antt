use Rattle.std.proofs.Common.{◌∙◌}
use Rattle.acct_base.specs.Amounts.{plus}
use Rattle.dump_text.proofs.ConditionLemmas.{recorded_more}
use Rattle.dump_text.proofs.tests.conditions.sum_of_recorded.Goals as goal

pub loop-phase-preserved : goal.loop-phase-preserved
loop-phase-preserved c =
    c.in_ok-sum.ensures.value ∙ (λ j. plus (c.loop-phase.invariant j) (c.recorded.ensures j))
    ∙ recorded_more c.args.phases.now c.args.uid c.loop-phase.phase-index c.phase-item.result c.loop-phase-test.true c.phase-item.is
