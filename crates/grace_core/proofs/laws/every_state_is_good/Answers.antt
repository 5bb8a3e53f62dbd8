use Rattle.grace_core.proofs.Keeps.{law_of_lists}
use Rattle.grace_core.proofs.laws.every_state_is_good.Goals as goal

pub returns : goal.returns
returns c = law_of_lists
