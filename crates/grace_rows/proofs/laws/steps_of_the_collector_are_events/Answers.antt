use Rattle.grace_rows.proofs.EventLemmas.{flips_by_event, polls_by_event, takes_by_event, frees_by_event}
use Rattle.grace_rows.proofs.laws.steps_of_the_collector_are_events.Goals as goal

pub returns-clause-flip : goal.returns-clause-flip
returns-clause-flip c = λ key s x i h rests early. flips_by_event key s x i h rests early

pub returns-clause-poll : goal.returns-clause-poll
returns-clause-poll c = λ key s old entered x i h waits phase. polls_by_event key s old entered x i h waits phase

pub returns-clause-take : goal.returns-clause-take
returns-clause-take c = λ key s old next taken x i h drains phase below. takes_by_event key s old next taken x i h drains phase below

pub returns-clause-reopen : goal.returns-clause-reopen
returns-clause-reopen c = λ key s old taken rows x i h drains phase t. frees_by_event key s old taken rows x i h drains phase t
