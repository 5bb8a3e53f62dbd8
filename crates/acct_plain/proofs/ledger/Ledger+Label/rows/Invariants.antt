use Rattle.std.proofs.Common.{◌≡◌, ◌++◌, map}
use Rattle.acct_plain.specs.Ledgers.{row_of}
use Rattle.acct_plain.proofs.ledger.Ledger+Label.rows.Given as goal

abbrev pub invariant-loop-label : goal.invariant-loop-label
invariant-loop-label l = l.rows.items ++ map row_of l.label-iterator ≡ map row_of l.self
