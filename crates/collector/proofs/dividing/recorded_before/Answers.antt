use Rattle.std.proofs.Common.{sym, ap, subst, ◌∙◌, arith}
use Rattle.std.specs.Prelude.{Option}
use Rattle.std.proofs.lemmas.List.{take_all}
use Rattle.acct_base.specs.declared.amount.Amount.{Amount}
use Rattle.acct_base.specs.declared.amount.Snapshot.{Snapshot}
use Rattle.acct_base.specs.Amounts.{plus, zero_amount, total_by, HasRoom}
use Rattle.acct_base.proofs.SumLemmas.{zero_plus}
use Rattle.shelf.specs.declared.shelf.Deletion.{Deletion}
use Rattle.shelf.specs.Shelved.{Phases}
use Rattle.shelf.specs.Phases.{recorded_app, deleted_app}
use Rattle.shelf.proofs.FrontLemmas.{sum_has_room, sum_more}
use Rattle.collector.proofs.dividing.recorded_before.Goals as goal

pub plus-sum-requires : goal.plus-sum-requires
plus-sum-requires c =
    let uid = c.args.uid in
    let phases = c.args.phases.now in
    let i = c.loop-deletion.deletion-index in
    let p = c.loop-deletion-item.result in
    let room : HasRoom (plus zero_amount (total_by (recorded_app uid) phases)) =
    subst (λ (a : Amount). HasRoom a) (sym (zero_plus (deleted_app phases uid))) c.requires in
    let now = sum_has_room (recorded_app uid) zero_amount phases i p c.loop-deletion-test.true room in
    record {
      room = subst (λ (a : Amount). HasRoom a) ((λ j. plus (sym c.loop-deletion.invariant j) (recorded_app uid (sym c.loop-deletion-item.is j)))
          ∙ ap (plus c.loop-deletion.sum) (sym (c.recorded_by.ensures p.0))) now;
    }

pub loop-deletion-preserved : goal.loop-deletion-preserved
loop-deletion-preserved c =
    let uid = c.args.uid in
    let phases = c.args.phases.now in
    let i = c.loop-deletion.deletion-index in
    let p = c.loop-deletion-item.result in
    c.plus-sum.ensures ∙ ap (plus c.loop-deletion.sum) (c.recorded_by.ensures p.0)
    ∙ (λ j. plus (c.loop-deletion.invariant j) (recorded_app uid (c.loop-deletion-item.is j)))
    ∙ sum_more (recorded_app uid) zero_amount phases i p c.loop-deletion-test.true

pub returns : goal.returns
returns c =
    c.loop-deletion.invariant
    ∙ ap (λ (ps : Phases). plus zero_amount (total_by (recorded_app c.args.uid) ps)) (take_all c.loop-deletion.deletion-index c.args.phases.now (omega (arith, c.loop-deletion-test.false)))
    ∙ zero_plus (deleted_app c.args.phases.now c.args.uid)
