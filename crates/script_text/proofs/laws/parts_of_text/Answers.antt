use Rattle.script_text.proofs.CutLines.{parts_once}
use Rattle.script_text.proofs.Wholes.{fed_on}
use Rattle.script_text.proofs.laws.parts_of_text.Goals as goal

pub returns-clause-fed : goal.returns-clause-fed
returns-clause-fed c = fed_on

pub returns-clause-once : goal.returns-clause-once
returns-clause-once c = parts_once
