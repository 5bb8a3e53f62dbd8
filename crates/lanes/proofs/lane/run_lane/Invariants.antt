use Rattle.std.proofs.Common.{◌≡◌, ◌+◌, ◌≤◌, length, take}
use Rattle.lanes.specs.Lanes.{LaneCalled}
use Rattle.lanes.specs.Seats.{IsOf, receipts_of}
use Rattle.lanes.proofs.lane.run_lane.Given as goal

abbrev pub invariant-loop-place : goal.invariant-loop-place
invariant-loop-place g l = record {
  of : IsOf l.engine l.seat;
  left : length l.calls ≤ l.seat.pass.has.left + l.place;
  room : l.seat.receipts.room ≡ length l.calls;
  count : length (receipts_of l.seat) ≡ l.place;
  called : LaneCalled l.engine.sizes.calls l.engine.sizes l.initial.seat.pass.has (take l.place l.calls) (receipts_of l.seat) l.seat.pass.has;
}
