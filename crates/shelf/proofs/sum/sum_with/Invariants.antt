use Rattle.std.proofs.Common.{◌≡◌, take}
use Rattle.acct_base.specs.Amounts.{plus, amount_at}
use Rattle.shelf.proofs.sum.sum_with.Given as goal

abbrev pub invariant-loop-row : goal.invariant-loop-row
invariant-loop-row l = l.sum ≡ plus l.fn.before (amount_at (take l.row-index l.rows) l.label)
