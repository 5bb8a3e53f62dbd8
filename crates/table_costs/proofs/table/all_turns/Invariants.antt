use Rattle.std.proofs.Common.{◌≡◌, ◌+◌, ◌≤◌}
use Rattle.table_costs.proofs.table.all_turns.Given as goal

abbrev pub invariant-loop-made : goal.invariant-loop-made
invariant-loop-made g l = record {
  counted : l.tally.hits + l.tally.misses ≡ l._made;
  left : g.T.Table.left l.initial.table ≤ g.T.Table.left l.table + l._made;
}
