-- How a seat shows what it has.
use Rattle.std.specs.Prelude.{◌≡◌, ◌+◌, ◌≤◌, ◌^◌, [], map}
use Rattle.total_rows.specs.declared.plan.Stage.TheVariants.{Idle}
use Rattle.total_rows.specs.declared.seat.TotalSeat.TheInside.{Inside}
use Rattle.total_rows.specs.Shown.{shown, places_of}
use Rattle.total_rows.specs.Seats.{SeatState}

-- The view of the seat, without what only the rule of the table needs.
abbrev pub seat_state : Inside → SeatState
seat_state s = record {
  table = s.seat.table_id;
  left = s.left;
  made = s.made;
  adds = map shown s.seat.me.0.adds;
  places = places_of s.seat.me.0.adds;
  notes = s.seat.me.0.notes;
}

-- The seat has as many calls as the table sees, none is under way, and it holds no slot.
pub record IsTotalSeat (s : Inside) : Type 0 where
  pub left : s.left ≡ s.seat.me.0.left
  pub made : s.made ≡ s.seat.me.0.made
  pub few : s.left + s.made ≤ 2 ^ 28
  pub rests : s.seat.me.0.stage ≡ Idle
  pub slotless : s.seat.me.1 ≡ []
