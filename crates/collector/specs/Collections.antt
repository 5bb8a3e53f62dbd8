-- What the calls of a collector say.
use Rattle.std.specs.Prelude.{◌≡◌, ◌≢◌, ℕ, true, false, List, [], ◌∷◌, ◌++◌, Option, None, Some}
use Rattle.acct_base.specs.declared.amount.Snapshot.{Snapshot}
use Rattle.acct_base.specs.declared.register.Write.{Write}
use Rattle.acct_base.specs.declared.sizes.RegSizes.{RegSizes}
use Rattle.acct_base.specs.Amounts.{IsAtMost}
use Rattle.desk_core.specs.declared.command.Command.TheVariants.{Delete}
use Rattle.desk_core.specs.declared.command.Reply.{Reply}
use Rattle.desk_core.specs.Commands.{is_done}
use Rattle.desk_regs.specs.Desks.{Commanded}
use Rattle.grace_rows.specs.Seats.{FlippedState, PairedState}
use Rattle.shelf.specs.declared.shelf.Deletion.{Deletion}
use Rattle.shelf.specs.Shelved.{Phases}
use Rattle.shelf.specs.Phases.{deleted_app, IsShelved, uid_of}
use Rattle.total_rows.specs.Seats.{SeatState}
use Rattle.collector.specs.declared.collector.CollectError.{CollectError}
use Rattle.collector.specs.declared.collector.CollectError.TheVariants.{PhasesSpent, Memory}
use Rattle.collector.specs.Collectors.{CollectorState, Gathered, IsLevel}
use Rattle.collector.specs.Deletions.{IsDropped, AppIsKnown, AppIsRead}

-- A collection under way has the collector's seat after the flip, the seat of the apps, the phases on the shelf, and room for so many rows.
pub record CollectingState : Type 0 where
  pub flipped : FlippedState
  pub apps : SeatState
  pub phases : Phases
  pub rows : ℕ

-- The collector with which a collection began.
abbrev pub began_with : CollectingState → CollectorState
began_with c = record {
  seat = record { table = c.flipped.table; phase = c.flipped.phase; snapshots = c.flipped.snapshots };
  apps = c.apps;
  phases = c.phases;
}

-- The collection is one of these maps.
abbrev pub IsOf : PairedState → CollectingState → Type 0
IsOf maps c = (c.flipped.table ≡ maps.table) × (c.rows ≡ maps.rows)

-- Why a collection isn't made: the phases are spent exactly where the phase is 1024, and this is looked at before memory is taken.
abbrev pub IsCause : ℕ → CollectError → Type 0
IsCause phase (PhasesSpent n) = (phase ≡ 1024) × (n ≡ 1024)
IsCause phase Memory = phase ≢ 1024

-- Why a deletion isn't made, though the desk would do it: the phases are spent only where the phase is 1024 and the command's reply is Done.
abbrev pub IsDeletionCause : ℕ → Reply → CollectError → Type 0
IsDeletionCause phase answer (PhasesSpent n) = (phase ≡ 1024) × (n ≡ 1024) × (is_done answer ≡ true)
IsDeletionCause phase answer Memory = Unit {0}

-- A collection that ended, from a level collector: one snapshot more, which its drop divides.
pub record Finished (drop : Option (ℕ × ℕ)) (before after : Gathered) : Type 0 where
  pub given : Snapshot
  pub shelved : Snapshot × Option Deletion
  pub gave : after.given ≡ before.given ++ given ∷ []
  pub put : after.phases ≡ before.phases ++ shelved ∷ []
  pub is_shelved : IsShelved given shelved
  pub dropped : IsDropped before.phase drop shelved.1
  pub read : AppIsRead before.phases after.known shelved.1
  pub app : AppIsKnown before.known after.known (deleted_app after.phases (uid_of shelved.1)) shelved.1
  pub known : (uid : ℕ) → IsAtMost (before.known uid) (after.known uid)
  pub level : IsLevel after

-- A collection that drops nothing ended the phase that was live.
abbrev pub Collected : Gathered → ℕ → Gathered → Type 0
Collected before phase after = (phase ≡ before.phase) × Finished None before after

module _ (privileged : List ℕ) (limits : RegSizes) where
  -- A deletion was carried out: where it is done, its collection drops what it deletes, and else nothing was collected.
  pub record Deleted (journal : List Write) (before : Gathered) (caller uid tag : ℕ) (answer : Reply) (journal_after : List Write) (after : Gathered) : Type 0 where
    pub commanded : Commanded privileged limits journal (Delete caller uid tag) answer journal_after
    pub done : is_done answer ≡ true → Finished (Some (uid, tag)) before after
    pub refused : is_done answer ≡ false → after ≡ before
