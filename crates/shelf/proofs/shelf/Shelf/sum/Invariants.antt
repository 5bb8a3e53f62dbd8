use Rattle.std.proofs.Common.{◌≡◌, take}
use Rattle.std.specs.Prelude.{Option}
use Rattle.acct_base.specs.declared.amount.Snapshot.{Snapshot}
use Rattle.acct_base.specs.Amounts.{plus, zero_amount, total_by, amount_at}
use Rattle.shelf.specs.declared.shelf.Deletion.{Deletion}
use Rattle.shelf.proofs.shelf.Shelf.sum.Given as goal

abbrev pub invariant-loop-snapshot : goal.invariant-loop-snapshot
invariant-loop-snapshot l = l.sum ≡ plus zero_amount (total_by (λ (p : Snapshot × Option Deletion). amount_at p.0.rows l.label) (take l.snapshot-index l.snapshot-items))
