use Rattle.std.proofs.Common.{ap, subst, sym}
use Rattle.grace_rows.specs.Seats.{CollectState}
use Rattle.shelf.specs.Shelved.{Phases}
use Rattle.total_rows.specs.Seats.{known}
use Rattle.collector.specs.Collectors.{Gathered, IsLevel, gathered_by}
use Rattle.collector.specs.Collections.{CollectingState, Finished, began_with}
use Rattle.collector.specs.Deletions.{AppIsRead}
use Rattle.collector.proofs.ShelfLemmas.{finishes}
use Rattle.collector.proofs.collecting.Collecting.finish.Goals as goal

pub returns-clause-finished : goal.returns-clause-finished
returns-clause-finished c =
    let view : CollectingState = record { flipped = c.self.inside.flipped; apps = c.self.inside.apps; phases = c.self.inside.shelf.phases; rows = c.self.inside.rows } in
    let level : IsLevel (gathered_by (began_with view)) = subst (λ (s : CollectingState). IsLevel (gathered_by (began_with s))) (sym c.self.view_is) c.requires.level in
    let read : AppIsRead c.self.inside.shelf.phases (known c.shelve-snapshot.new.seat) c.shelve-snapshot.result.1 =
    subst (λ (ps : Phases). AppIsRead ps (known c.shelve-snapshot.new.seat) c.shelve-snapshot.result.1) c.phases.ensures c.shelve-snapshot.ensures.read in
    let after : Gathered = record { phase = (c.drain-seat.result.0).phase; given = (c.drain-seat.result.0).snapshots; known = known c.shelve-snapshot.new.seat; phases = c.put.new.self.phases } in
    subst (λ (s : CollectingState). Finished c.args.drop (gathered_by (began_with s)) after) c.self.view_is
    (finishes c.args.drop (gathered_by (began_with view)) after c.drain-seat.result.1 c.shelve-snapshot.result level
    (ap (λ (s : CollectState). s.phase) c.drain-seat.ensures.seat) (ap (λ (s : CollectState). s.snapshots) c.drain-seat.ensures.seat) c.put.ensures
    c.drain-seat.ensures.phase c.shelve-snapshot.ensures.shelved c.shelve-snapshot.ensures.dropped read c.shelve-snapshot.ensures.grows)

pub returns-clause-level : goal.returns-clause-level
returns-clause-level c = (returns-clause-finished c).level
