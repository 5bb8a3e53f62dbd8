-- Phases, and what their rows hold: for each phase and each label, the sum of the charges that landed.
use Rattle.std.specs.Prelude.{◌≡◌, ℕ, ◌≤◌, ◌==◌, ◌&&◌, ◌||◌, not, filter, unwrap_or, Bool, false, List, [], ◌++◌, length, map, slice_get, Option, None, Some, option_map}
use Rattle.std.specs.List.{AllByRecursion, flat_map}
use Rattle.acct_base.specs.declared.amount.Amount.{Amount}
use Rattle.acct_base.specs.declared.amount.Row.{Row}
use Rattle.acct_base.specs.declared.charge.Charge.{Charge}
use Rattle.acct_base.specs.declared.amount.Snapshot.{Snapshot}
use Rattle.acct_base.specs.Amounts.{amount_at, labels_of, label_cmp, RowsAscend, total_by, amount_if, zero_amount}
use Rattle.acct_base.specs.Ordered.{ascending}
use Rattle.acct_base.specs.Sums.{HoldsCharges, has_label}
use Rattle.shelf.specs.declared.shelf.Deletion.{Deletion}
use Rattle.shelf.specs.Shelved.{Phases}

-- the snapshot of a phase that ended
abbrev pub snapshot_at : Phases → ℕ → Option Snapshot
snapshot_at phases n = option_map (λ (p : Snapshot × Option Deletion). p.0) (slice_get phases n)

-- the deletion that a phase's collection made, if it made one
abbrev pub deletion_at : Phases → ℕ → Option Deletion
deletion_at phases n = elim (slice_get phases n) [ Some p ↦ p.1 | None ↦ None ]

-- the rows that a deletion took out
abbrev pub deleted_rows : Option Deletion → List Row
deleted_rows None = []
deleted_rows (Some d) = d.rows

-- what a phase charged: its snapshot's rows and those that its collection deleted
abbrev pub ended_rows : Snapshot × Option Deletion → List Row
ended_rows p = p.0.rows ++ deleted_rows p.1

-- the rows of a phase; the one after the last snapshot is live
abbrev pub rows_of_phase : Phases → Snapshot → ℕ → List Row
rows_of_phase phases live n = elim (slice_get phases n) [ Some p ↦ ended_rows p | None ↦ live.rows ]

-- a deletion's rows ascend too
abbrev pub DeletionAscends : Option Deletion → Type 0
DeletionAscends None = Unit {0}
DeletionAscends (Some d) = RowsAscend d.rows

-- snapshot n is that of phase n, and its rows ascend
pub record IsSnapshotOf (n : ℕ) (p : Snapshot × Option Deletion) : Type 0 where
  pub phase : p.0.phase ≡ n
  pub ascend : RowsAscend p.0.rows
  pub deletion_ascends : DeletionAscends p.1

-- every phase, those that ended and the live one, holds what landed in it, and nothing else
pub record IsConserved (charges : List Charge) (phases : Phases) (live : Snapshot) : Type 0 where
  pub holds : (n : ℕ) → n ≤ length phases → HoldsCharges charges n (rows_of_phase phases live n)
  pub snapshots : (n : ℕ) (p : Snapshot × Option Deletion) → slice_get phases n ≡ Some p → IsSnapshotOf n p
  pub live_phase : live.phase ≡ length phases
  pub live_ascends : RowsAscend live.rows

-- a charge that did not land met a map full of other labels
abbrev pub FullIsShown : ℕ → List Charge → Phases → Snapshot → Type 0
FullIsShown size charges phases live =
    AllByRecursion (λ (c : Charge). c.landed ≡ false →
    let rows = rows_of_phase phases live c.phase in
    (length rows ≡ size) × (has_label rows c.job.label ≡ false)) charges

-- the rows that a deletion takes: those of its uid, and of its tag where that is not 0
abbrev pub is_deleted : ℕ → ℕ → Row → Bool
is_deleted uid tag row = row.label.uid == uid && (tag == 0 || row.label.tag == tag)

-- what the deletions of a uid recorded of its app
abbrev pub recorded_app : ℕ → Snapshot × Option Deletion → Amount
recorded_app uid (snapshot, None) = zero_amount
recorded_app uid (snapshot, Some d) = amount_if (d.uid == uid) (unwrap_or d.app zero_amount)

-- what all deletions of a uid recorded of its app
abbrev pub deleted_app : Phases → ℕ → Amount
deleted_app phases uid = total_by (recorded_app uid) phases

-- all rows of the snapshots; what was deleted is left out
abbrev pub snapshot_rows : Phases → List Row
snapshot_rows phases = flat_map (λ (p : Snapshot × Option Deletion). p.0.rows) phases

-- these rows, and the live ones
abbrev pub kept_rows : Phases → Snapshot → List Row
kept_rows phases live = snapshot_rows phases ++ live.rows

-- the rows of one label added, ascending by label
abbrev pub added_rows : List Row → List Row
added_rows rows = map (λ label. record { label = label; amount = amount_at rows label }) (ascending label_cmp (labels_of rows))

-- The uid of a deletion, where there is one.
abbrev pub uid_of : Option Deletion → ℕ
uid_of None = 0
uid_of (Some d) = d.uid

-- A deletion divides the rows of a snapshot in two.
pub record IsDividedBy (whole snapshot : Snapshot) (d : Deletion) : Type 0 where
  pub phase : snapshot.phase ≡ whole.phase
  pub left : snapshot.rows ≡ filter (λ row. not (is_deleted d.uid d.tag row)) whole.rows
  pub taken : d.rows ≡ filter (is_deleted d.uid d.tag) whole.rows

-- What stands on the shelf is a whole snapshot, divided where there is a deletion.
abbrev pub IsShelved : Snapshot → Snapshot × Option Deletion → Type 0
IsShelved whole (snapshot, None) = snapshot ≡ whole
IsShelved whole (snapshot, Some d) = IsDividedBy whole snapshot d
