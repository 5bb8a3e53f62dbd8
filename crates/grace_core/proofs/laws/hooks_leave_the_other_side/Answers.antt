use Rattle.grace_core.proofs.Phases.{other_side_stays}
use Rattle.grace_core.proofs.laws.hooks_leave_the_other_side.Goals as goal

pub returns : goal.returns
returns c = λ s next event g alone hook e. other_side_stays s g alone next event hook e
