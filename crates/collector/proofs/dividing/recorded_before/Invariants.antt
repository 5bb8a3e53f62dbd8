use Rattle.std.proofs.Common.{◌≡◌, take}
use Rattle.acct_base.specs.Amounts.{plus, zero_amount, total_by}
use Rattle.shelf.specs.Phases.{recorded_app}
use Rattle.collector.proofs.dividing.recorded_before.Given as goal

abbrev pub invariant-loop-deletion : goal.invariant-loop-deletion
invariant-loop-deletion l = l.sum ≡ plus zero_amount (total_by (recorded_app l.uid) (take l.deletion-index l.phases))
