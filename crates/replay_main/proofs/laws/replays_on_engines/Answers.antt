use Rattle.replay_main.proofs.EngineEnds.{replay_is_honest}
use Rattle.replay_main.proofs.EngineTold.{replay_is_told}
use Rattle.replay_main.proofs.SerialRun.{replay_is_serial}
use Rattle.replay_main.proofs.laws.replays_on_engines.Goals as goal

pub returns : goal.returns
returns c = record { honest = replay_is_honest c.run_is_honest.ensures; told = replay_is_told; serial = replay_is_serial }
