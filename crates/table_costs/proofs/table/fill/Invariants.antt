use Rattle.std.proofs.Common.{◌+◌, ◌≤◌}
use Rattle.table_costs.proofs.table.fill.Given as goal

abbrev pub invariant-loop-index : goal.invariant-loop-index
invariant-loop-index g l = g.T.Table.left l.initial.table ≤ g.T.Table.left l.table + l.index
