use Rattle.replay_main.proofs.OneJudgement.{script_has_no_fault, one_fault, one_reading}
use Rattle.replay_main.proofs.laws.one_judgement.Goals as goal

pub returns-clause-script : goal.returns-clause-script
returns-clause-script c = script_has_no_fault

pub returns-clause-fault : goal.returns-clause-fault
returns-clause-fault c = one_fault

pub returns-clause-reading : goal.returns-clause-reading
returns-clause-reading c = one_reading
