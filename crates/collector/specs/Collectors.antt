-- What a collector is seen as, and when it is level.
use Rattle.std.specs.Prelude.{◌≡◌, ℕ, List, length}
use Rattle.std.specs.List.{AllZip}
use Rattle.acct_base.specs.declared.amount.Amount.{Amount}
use Rattle.acct_base.specs.declared.amount.Snapshot.{Snapshot}
use Rattle.acct_base.specs.Amounts.{IsAtMost}
use Rattle.grace_rows.specs.Seats.{CollectState}
use Rattle.total_rows.specs.Seats.{SeatState, known}
use Rattle.shelf.specs.Shelved.{Phases}
use Rattle.shelf.specs.Phases.{deleted_app, IsShelved}

-- A collector has its seat at the maps, its seat at the totals of the apps, and the phases that stand on its shelf.
pub record CollectorState : Type 0 where
  pub seat : CollectState
  pub apps : SeatState
  pub phases : Phases

-- What a collector gathered: the number of the phase that is live, the snapshots that its seat gave, what it knows of each app's total, and the phases on its shelf.
pub record Gathered : Type 0 where
  pub phase : ℕ
  pub given : List Snapshot
  pub known : ℕ → Amount
  pub phases : Phases

abbrev pub gathered_by : CollectorState → Gathered
gathered_by c = record { phase = c.seat.phase; given = c.seat.snapshots; known = known c.apps; phases = c.phases }

-- A collector is level where its shelf tells what its seats gave: each phase that ended stands there, whole or divided by a deletion, and no uid's deletions recorded more of its app than is known of it.
pub record IsLevel (c : Gathered) : Type 0 where
  pub phase : c.phase ≡ length c.phases
  pub shelved : AllZip IsShelved c.given c.phases
  pub recorded : (uid : ℕ) → IsAtMost (deleted_app c.phases uid) (c.known uid)

-- The collector's seats are still at the same tables, with the same calls and adds; it learned at most more of the apps.
pub record HasSameSeats (before after : CollectorState) : Type 0 where
  pub maps : after.seat.table ≡ before.seat.table
  pub apps : after.apps ≡ record before.apps { notes = after.apps.notes }
