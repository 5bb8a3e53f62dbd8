use Rattle.replay_main.proofs.Telling.{serial_covers}
use Rattle.replay_main.proofs.laws.serial_deletions_are_covered.Goals as goal

pub returns : goal.returns
returns c = serial_covers
