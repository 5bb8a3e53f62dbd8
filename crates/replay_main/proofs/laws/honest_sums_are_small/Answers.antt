use Rattle.replay_main.proofs.SmallSums.{honest_sums_are_small}
use Rattle.replay_main.proofs.laws.honest_sums_are_small.Goals as goal

pub returns : goal.returns
returns c = honest_sums_are_small c.length_is_charged.ensures.chargeable
