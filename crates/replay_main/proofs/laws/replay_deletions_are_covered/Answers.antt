use Rattle.replay_main.proofs.EngineDump.{replay_covers}
use Rattle.replay_main.proofs.laws.replay_deletions_are_covered.Goals as goal

pub returns : goal.returns
returns c = replay_covers
