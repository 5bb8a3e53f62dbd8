use Rattle.std.proofs.Common.{◌≡◌, ◌≤◌, ◌++◌, length, map, vec_capacity}
use Rattle.std.specs.Vec.Iter.{into_iter_items, into_iter_len}
use Rattle.lanes.specs.Lanes.{AllJoined}
use Rattle.lanes.specs.Seats.{pass_of, receipts_of}
use Rattle.lanes.proofs.seating.gather.Given as goal

abbrev pub invariant-loop-seat : goal.invariant-loop-seat
invariant-loop-seat l = record {
  parts : l.yielded ++ into_iter_items l.seat-iterator ≡ l.fn.seats.items;
  lens : length (into_iter_items l.seat-iterator) ≡ into_iter_len l.seat-iterator;
  from : l.pass.tables ≡ l.engine.tables;
  joined : AllJoined l.initial.pass.has (map pass_of l.yielded) l.pass.has;
  receipts : l.lanes.items ≡ map receipts_of l.yielded;
  space : length l.fn.seats.items ≤ vec_capacity l.lanes;
}
