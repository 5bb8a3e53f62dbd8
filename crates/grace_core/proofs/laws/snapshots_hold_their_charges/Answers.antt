use Rattle.grace_core.proofs.Shown.{snapshots_hold}
use Rattle.grace_core.proofs.laws.snapshots_hold_their_charges.Goals as goal

pub returns : goal.returns
returns c = λ s n snapshot g e. snapshots_hold s g n snapshot e
