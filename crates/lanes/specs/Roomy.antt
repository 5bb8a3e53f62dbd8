-- The memory of a section.
use Rattle.std.specs.Prelude.{◌≡◌, ◌≤◌, [], length, map, vec_capacity}
use Rattle.captures.specs.Calls.{SectionCalls}
use Rattle.lanes.specs.declared.rooms.Rooms.{Rooms}
use Rattle.lanes.specs.Seats.{room_for}

-- There is room for the receipts of each lane, for each lane's seat and list of receipts, and for each reply.
pub record AreRoomsOf (calls : SectionCalls) (rooms : Rooms) : Type 0 where
  pub receipts : rooms.receipts.items ≡ map room_for calls.lanes
  pub seats : (rooms.seats.items ≡ []) × (length calls.lanes ≤ vec_capacity rooms.seats)
  pub lanes : (rooms.lanes.items ≡ []) × (length calls.lanes ≤ vec_capacity rooms.lanes)
  pub replies : (rooms.replies.items ≡ []) × (length calls.desk ≤ vec_capacity rooms.replies)
