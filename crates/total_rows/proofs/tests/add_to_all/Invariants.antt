use Rattle.std.proofs.Common.{◌≡◌, ◌≤◌}
use Rattle.total_rows.proofs.tests.add_to_all.Given as goal

abbrev pub invariant-loop-key : goal.invariant-loop-key
invariant-loop-key l = record {
  table : l.seat.table ≡ l.totals.table;
  rows : l.rows ≤ l.key;
}
