use Rattle.std.proofs.Common.{ap, ◌+◌, arith}
use Rattle.dump_text.proofs.ConditionLemmas.{ascend_none, ascend_more}
use Rattle.dump_text.proofs.tests.conditions.ascend.Goals as goal

pub loop-total-init : goal.loop-total-init
loop-total-init c = ascend_none c.args.totals.now

pub loop-total-preserved : goal.loop-total-preserved
loop-total-preserved c =
    ascend_more c.args.totals.now c.loop-total.total-index c.loop-total.least _ (c.from-uid.result + 1) c.loop-total-test.true c.loop-total.invariant
    (omega (arith, c.from-uid.ensures, c.if-uid-least.false)) (ap (λ n. n + 1) c.from-uid.ensures)
