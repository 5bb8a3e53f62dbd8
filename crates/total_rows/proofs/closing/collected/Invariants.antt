use Rattle.std.proofs.Common.{◌≡◌, ◌≤◌}
use Rattle.std.specs.Prelude.{vec_len, vec_capacity}
use Rattle.std.specs.Mem.Slots.{slots_items}
use Rattle.total_rows.specs.Closed.{rows_below}
use Rattle.total_rows.proofs.closing.collected.Given as goal

abbrev pub invariant-loop-row : goal.invariant-loop-row
invariant-loop-row l = record {
  rows : l.totals.items ≡ rows_below l.rows (slots_items l.closed.words) l.row;
  room : vec_len l.totals ≤ l.row;
  capacity : l.rows ≤ vec_capacity l.totals;
}
