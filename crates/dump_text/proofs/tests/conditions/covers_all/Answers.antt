use Rattle.std.proofs.Common.{subst, arith}
use Rattle.std.specs.Prelude.{IfSome, Option}
use Rattle.std.specs.List.{AllByRecursion}
use Rattle.std.proofs.lemmas.List.{take_all}
use Rattle.acct_base.specs.declared.amount.Snapshot.{Snapshot}
use Rattle.acct_base.specs.Amounts.{IsAtMost}
use Rattle.acct_base.specs.Sums.{total_at}
use Rattle.shelf.specs.declared.shelf.Deletion.{Deletion}
use Rattle.shelf.specs.Shelved.{Phases}
use Rattle.shelf.specs.Phases.{deleted_app}
use Rattle.dump_text.proofs.ConditionLemmas.{all_covered}
use Rattle.dump_text.proofs.tests.conditions.covers_all.Goals as goal

pub returns : goal.returns
returns c =
    let phases = c.args.phases.now in
    let totals = c.args.totals.now in
    all_covered phases (total_at totals)
    (subst (λ (ps : Phases). AllByRecursion (λ (p : Snapshot × Option Deletion). IfSome p.1 (λ d. IsAtMost (deleted_app phases d.uid) (total_at totals d.uid))) ps)
    (take_all c.loop-phase.phase-index phases (omega (arith, c.loop-phase-test.false))) c.loop-phase.invariant)
