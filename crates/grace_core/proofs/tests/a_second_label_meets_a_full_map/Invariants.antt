use Rattle.grace_core.specs.Good.{IsGood}
use Rattle.grace_core.proofs.tests.a_second_label_meets_a_full_map.Given as goal

abbrev pub invariant-loop-event : goal.invariant-loop-event
invariant-loop-event g l = IsGood l.state
