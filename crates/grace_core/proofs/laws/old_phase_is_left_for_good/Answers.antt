use Rattle.grace_core.proofs.Phases.{left_for_good}
use Rattle.grace_core.proofs.laws.old_phase_is_left_for_good.Goals as goal

pub returns : goal.returns
returns c = λ s entries events g waits left. left_for_good s g entries events waits left
