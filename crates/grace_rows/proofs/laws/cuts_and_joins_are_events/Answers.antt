use Rattle.grace_rows.proofs.EventLemmas.{splits_by_event, opens_by_event, joins_by_event}
use Rattle.grace_rows.proofs.laws.cuts_and_joins_are_events.Goals as goal

pub returns-clause-split : goal.returns-clause-split
returns-clause-split c = λ key s id n x i h out fits. splits_by_event key s id n x i h out fits

pub returns-clause-join : goal.returns-clause-join
returns-clause-join c = λ key s id other x y i out j h still apart. joins_by_event key s id other x y i out j h still apart

pub returns-clause-first_cut : goal.returns-clause-first_cut
returns-clause-first_cut c = λ key s id x i h out. opens_by_event key s id x i h out
