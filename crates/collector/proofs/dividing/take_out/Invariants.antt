use Rattle.std.proofs.Common.{◌≡◌, ◌≤◌, take}
use Rattle.std.specs.Prelude.{filter, vec_len, vec_capacity}
use Rattle.shelf.specs.Phases.{is_deleted}
use Rattle.collector.proofs.dividing.take_out.Given as goal

abbrev pub invariant-loop-row : goal.invariant-loop-row
invariant-loop-row l = record {
  taken : l.taken.items ≡ filter (is_deleted l.uid l.tag) (take l.row-index l.row-items);
  few : vec_len l.taken ≤ l.row-index;
  room : vec_capacity l.taken ≡ vec_capacity l.fn.room;
}
