use Rattle.dump_text.proofs.ConditionLemmas.{AscendBelow}
use Rattle.dump_text.proofs.tests.conditions.ascend.Given as goal

abbrev pub invariant-loop-total : goal.invariant-loop-total
invariant-loop-total l = AscendBelow l.totals l.total-index l.least
