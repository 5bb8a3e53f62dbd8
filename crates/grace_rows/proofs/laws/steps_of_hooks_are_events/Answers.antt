use Rattle.grace_rows.proofs.EventLemmas.{enters_by_event, claims_first_by_event, claims_second_by_event, adds_packets_by_event, adds_bytes_by_event, exits_by_event}
use Rattle.grace_rows.proofs.laws.steps_of_hooks_are_events.Goals as goal

pub returns-clause-enter : goal.returns-clause-enter
returns-clause-enter c = λ key s id x i h out can. enters_by_event key s id x i h out can

pub returns-clause-claim_first : goal.returns-clause-claim_first
returns-clause-claim_first c = λ key s id phase charges turn job x i h here few valid. claims_first_by_event key s id phase charges turn job x i h here few valid

pub returns-clause-claim_second : goal.returns-clause-claim_second
returns-clause-claim_second c = λ key s id phase charges turn job x i h here. claims_second_by_event key s id phase charges turn job x i h here

pub returns-clause-packets : goal.returns-clause-packets
returns-clause-packets c = λ key s id phase charges row job x i h here. adds_packets_by_event key s id phase charges row job x i h here

pub returns-clause-bytes : goal.returns-clause-bytes
returns-clause-bytes c = λ key s id phase charges row job x i h here. adds_bytes_by_event key s id phase charges row job x i h here

pub returns-clause-exit : goal.returns-clause-exit
returns-clause-exit c = λ key s id phase charges x i h here. exits_by_event key s id phase charges x i h here
