use Rattle.grace_core.proofs.Phases.{one_row_each}
use Rattle.grace_core.proofs.laws.a_label_has_one_row.Goals as goal

pub returns : goal.returns
returns c = λ s phase label i j g used valid li lj a b. one_row_each s g phase label i j used valid li lj a b
