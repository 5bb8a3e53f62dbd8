use Rattle.std.proofs.Common.{◌≡◌, map, take}
use Rattle.lanes.specs.Seats.{room_for}
use Rattle.lanes.proofs.rooms.receipt_rooms.Given as goal

abbrev pub invariant-loop-place : goal.invariant-loop-place
invariant-loop-place l = l.rooms.items ≡ map room_for (take l.place l.lanes)
