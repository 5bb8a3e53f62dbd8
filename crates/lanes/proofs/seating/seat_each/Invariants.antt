use Rattle.std.proofs.Common.{◌≡◌, ◌+◌, ◌≤◌, ◌++◌, length, map, take, vec_capacity}
use Rattle.std.specs.List.{AllZip}
use Rattle.std.specs.Vec.Iter.{into_iter_items, into_iter_len}
use Rattle.lanes.specs.Lanes.{AllSplit, calls_made}
use Rattle.lanes.specs.Seats.{IsReadyFor, pass_of}
use Rattle.lanes.proofs.seating.seat_each.Given as goal

abbrev pub invariant-loop-room : goal.invariant-loop-room
invariant-loop-room l = record {
  parts : l.yielded ++ into_iter_items l.room-iterator ≡ l.fn.receipts.items;
  lens : length (into_iter_items l.room-iterator) ≡ into_iter_len l.room-iterator;
  from : l.pass.tables ≡ l.engine.tables;
  left : l.pass.has.left + calls_made (take (length l.yielded) l.lanes) ≡ l.initial.pass.has.left;
  space : length l.lanes ≤ vec_capacity l.seats;
  count : length l.seats.items ≡ length l.yielded;
  split : AllSplit l.initial.pass.has (map pass_of l.seats.items) l.pass.has;
  ready : AllZip (IsReadyFor l.engine) (take (length l.yielded) l.lanes) l.seats.items;
}
