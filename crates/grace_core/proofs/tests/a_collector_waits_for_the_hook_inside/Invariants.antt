use Rattle.grace_core.specs.Good.{IsGood}
use Rattle.grace_core.proofs.tests.a_collector_waits_for_the_hook_inside.Given as goal

abbrev pub invariant-loop-event : goal.invariant-loop-event
invariant-loop-event g l = IsGood l.state

abbrev pub invariant-loop : goal.invariant-loop
invariant-loop g l = IsGood l.state
