use Rattle.row_probe.proofs.Turns.{place-lt, place-injective, place-surjective, place-next}
use Rattle.row_probe.proofs.laws.turns_give_each_place_once.Goals as goal

pub returns-clause-within : goal.returns-clause-within
returns-clause-within c = place-lt

pub returns-clause-distinct : goal.returns-clause-distinct
returns-clause-distinct c = place-injective

pub returns-clause-every : goal.returns-clause-every
returns-clause-every c = place-surjective

pub returns-clause-next : goal.returns-clause-next
returns-clause-next c = place-next
