use Rattle.std.proofs.Common.{◌≡◌, ◌++◌, List, take}
use Rattle.acct_base.specs.declared.amount.Row.{Row}
use Rattle.acct_base.specs.declared.label.Label.{Label}
use Rattle.acct_base.specs.Amounts.{plus, amount_at}
use Rattle.shelf.specs.Merged.{IsMerged, amount_of}
use Rattle.shelf.proofs.merge.add_rows.Given as goal

abbrev pub invariant-loop-row : goal.invariant-loop-row
invariant-loop-row l = record {
  amounts : (label : Label) → amount_of l.sums.entries label ≡ plus (amount_of l.initial.sums.entries label) (amount_at (take l.row-index l.rows) label);
  merged : (before : List Row) → IsMerged l.initial.sums.entries before → IsMerged l.sums.entries (before ++ take l.row-index l.rows);
}
