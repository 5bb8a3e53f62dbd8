use Rattle.std.proofs.Common.{◌≡◌, ◌++◌, map}
use Rattle.shelf.specs.Merged.{row_of}
use Rattle.shelf.proofs.merge.rows_of.Given as goal

abbrev pub invariant-loop-label : goal.invariant-loop-label
invariant-loop-label l = l.rows.items ++ map row_of l.label-iterator ≡ map row_of l.sums.entries
