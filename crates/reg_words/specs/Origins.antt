-- A seat came from registers.
use Rattle.std.specs.Prelude.{◌≡◌}
use Rattle.atomic_table.specs.declared.shared.Seat.{Seat}
use Rattle.reg_words.specs.declared.words.Words.{Words}
use Rattle.reg_words.specs.declared.view.View.{View}
use Rattle.reg_words.specs.Seats.{Origin}

-- Where the registers of these words come from: their table, and their limits. A seat has it where it came from them.
abbrev pub origin : Words → Origin
origin words = record { table = words.table.shared.table_id; limits = words.limits }

-- A seat of the table is of these words.
abbrev pub IsSeatOf : Words → Seat (Unit {0}) View → Type 0
IsSeatOf words seat = (seat.table_id ≡ words.table.shared.table_id) × (seat.me.0.limits ≡ words.limits)

-- A step leaves a seat the same one.
abbrev pub IsSameSeat : Seat (Unit {0}) View → Seat (Unit {0}) View → Type 0
IsSameSeat p q = (q.table_id ≡ p.table_id) × (q.id ≡ p.id) × (q.me.1 ≡ p.me.1)
