use Rattle.script_text.proofs.Readings.{part_same, syntax_decides}
use Rattle.script_text.proofs.laws.one_reading.Goals as goal

pub returns-clause-once : goal.returns-clause-once
returns-clause-once c = λ from ls ms bytes rest other a b. part_same from ls ms bytes rest other a b

pub returns-clause-decides : goal.returns-clause-decides
returns-clause-decides c = λ from t bytes other first line ms f b. syntax_decides from t bytes other first line ms f b
