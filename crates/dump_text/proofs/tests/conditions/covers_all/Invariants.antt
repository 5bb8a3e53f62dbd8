use Rattle.std.proofs.Common.{take}
use Rattle.std.specs.Prelude.{IfSome, Option}
use Rattle.std.specs.List.{AllByRecursion}
use Rattle.acct_base.specs.declared.amount.Snapshot.{Snapshot}
use Rattle.acct_base.specs.Amounts.{IsAtMost}
use Rattle.acct_base.specs.Sums.{total_at}
use Rattle.shelf.specs.declared.shelf.Deletion.{Deletion}
use Rattle.shelf.specs.Phases.{deleted_app}
use Rattle.dump_text.proofs.tests.conditions.covers_all.Given as goal

abbrev pub invariant-loop-phase : goal.invariant-loop-phase
invariant-loop-phase l = AllByRecursion (λ (p : Snapshot × Option Deletion). IfSome p.1 (λ d. IsAtMost (deleted_app l.phases d.uid) (total_at l.totals d.uid))) (take l.phase-index l.phases)
