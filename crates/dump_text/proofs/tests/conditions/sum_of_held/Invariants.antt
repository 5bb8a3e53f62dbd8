use Rattle.std.proofs.Common.{◌≡◌, take}
use Rattle.acct_base.specs.Sums.{total_at}
use Rattle.dump_text.proofs.tests.conditions.sum_of_held.Given as goal

abbrev pub invariant-loop-total : goal.invariant-loop-total
invariant-loop-total l = l.sum ≡ total_at (take l.total-index l.totals) l.uid
