use Rattle.std.proofs.Common.{◌≡◌, take}
use Rattle.acct_base.specs.Amounts.{plus}
use Rattle.dump_text.proofs.ConditionLemmas.{all_amounts}
use Rattle.dump_text.proofs.tests.conditions.sum_of_rows.Given as goal

abbrev pub invariant-loop-row : goal.invariant-loop-row
invariant-loop-row l = l.sum ≡ plus l.fn.before (all_amounts (take l.row-index l.rows))
