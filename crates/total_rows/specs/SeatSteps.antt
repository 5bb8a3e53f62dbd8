-- What steps leave of a seat of the table.
use Rattle.std.specs.Prelude.{◌≡◌, ◌⊎◌, ℕ}
use Rattle.atomic_table.specs.declared.shared.Seat.{Seat}
use Rattle.total_rows.specs.declared.plan.View.{View}
use Rattle.total_rows.specs.declared.plan.Stage.{Stage}
use Rattle.total_rows.specs.declared.plan.Stage.TheVariants.{Idle, Reading}

-- A step leaves a seat the same one, with the same slots.
abbrev pub IsSameSeat : Seat (Unit {0}) View → Seat (Unit {0}) View → Type 0
IsSameSeat p q = (q.table_id ≡ p.table_id) × (q.id ≡ p.id) × (q.me.1 ≡ p.me.1)

-- Behind a number the seat is at the same row, or rests.
abbrev pub GoesOnReading : ℕ → ℕ → Stage → Type 0
GoesOnReading key turn next = (next ≡ Reading key turn) ⊎ (next ≡ Idle)
