use Rattle.replay_main.proofs.GeneratedScript.{generated_is}
use Rattle.replay_main.proofs.laws.generated_is_a_script.Goals as goal

pub returns : goal.returns
returns c = record { script = generated_is }
