use Rattle.captures.proofs.Outcomes.{one_outcome}
use Rattle.captures.proofs.laws.one_section_outcome.Goals as goal

pub returns : goal.returns
returns c = one_outcome
