use Rattle.std.proofs.Common.{List, sym, ap, subst, ◌∙◌, arith}
use Rattle.std.specs.Prelude.{Option}
use Rattle.std.proofs.lemmas.List.{take_all}
use Rattle.acct_base.specs.declared.amount.Amount.{Amount}
use Rattle.acct_base.specs.declared.amount.Row.{Row}
use Rattle.acct_base.specs.declared.amount.Snapshot.{Snapshot}
use Rattle.acct_base.specs.Amounts.{plus, zero_amount, total_by, amount_at, HasRoom}
use Rattle.shelf.specs.declared.shelf.Deletion.{Deletion}
use Rattle.shelf.specs.Shelved.{Phases}
use Rattle.shelf.specs.Phases.{snapshot_rows}
use Rattle.shelf.proofs.FrontLemmas.{snapshot_sum, sum_has_room, sum_more}
use Rattle.shelf.proofs.shelf.Shelf.sum.Goals as goal

pub sum_with-sum-requires : goal.sum_with-sum-requires
sum_with-sum-requires c =
    let label = c.args.label.now in
    let items = c.phases-snapshot-items.result.now in
    let i = c.loop-snapshot.snapshot-index in
    let p = c.loop-snapshot-item.result in
    let held = λ (q : Snapshot × Option Deletion). amount_at q.0.rows label in
    let room : HasRoom (plus zero_amount (total_by held items)) =
    subst (λ (a : Amount). HasRoom a) (ap (λ (ps : Phases). amount_at (snapshot_rows ps) label) (sym c.phases-snapshot-items.ensures) ∙ snapshot_sum items label) c.requires.room in
    let now = sum_has_room held zero_amount items i p c.loop-snapshot-test.true room in
    record {
      room = subst (λ (a : Amount). HasRoom a) ((λ j. plus (sym c.loop-snapshot.invariant j) (held (sym c.loop-snapshot-item.is j)))
          ∙ ap (λ (rows : List Row). plus c.loop-snapshot.sum (amount_at rows label)) (sym c.as_slice.ensures)) now;
    }

pub loop-snapshot-preserved : goal.loop-snapshot-preserved
loop-snapshot-preserved c =
    let label = c.args.label.now in
    let items = c.phases-snapshot-items.result.now in
    let i = c.loop-snapshot.snapshot-index in
    let p = c.loop-snapshot-item.result in
    let held = λ (q : Snapshot × Option Deletion). amount_at q.0.rows label in
    c.sum_with-sum.ensures ∙ ap (λ (rows : List Row). plus c.loop-snapshot.sum (amount_at rows label)) c.as_slice.ensures
    ∙ (λ j. plus (c.loop-snapshot.invariant j) (held (c.loop-snapshot-item.is j)))
    ∙ sum_more held zero_amount items i p c.loop-snapshot-test.true

pub returns : goal.returns
returns c =
    let label = c.args.label.now in
    let items = c.phases-snapshot-items.result.now in
    c.loop-snapshot.invariant
    ∙ ap (λ (ps : Phases). plus zero_amount (total_by (λ (q : Snapshot × Option Deletion). amount_at q.0.rows label) ps)) (take_all c.loop-snapshot.snapshot-index items (omega (arith, c.loop-snapshot-test.false)))
    ∙ sym (snapshot_sum items label) ∙ ap (λ (ps : Phases). amount_at (snapshot_rows ps) label) c.phases-snapshot-items.ensures
