use Rattle.std.proofs.Common.{sym, subst, ◌∙◌}
use Rattle.acct_base.specs.declared.amount.Amount.{Amount}
use Rattle.acct_base.specs.declared.amount.Row.{Row}
use Rattle.acct_base.specs.Amounts.{plus, amount_if, same_label, HasRoom}
use Rattle.shelf.proofs.FrontLemmas.{sum_has_room, sum_more}
use Rattle.shelf.proofs.sum.sum_with.Goals as goal

pub plus-sum-requires : goal.plus-sum-requires
plus-sum-requires c =
    let held = λ (row : Row). amount_if (same_label row.label c.args.label.now) row.amount in
    record {
      room = subst (λ (a : Amount). HasRoom a) (λ j. plus (sym c.loop-row.invariant j) (sym c.amount_for.ensures j))
          (sum_has_room held c.args.before c.args.rows.now c.loop-row.row-index _ c.loop-row-test.true c.requires.room);
    }

pub loop-row-preserved : goal.loop-row-preserved
loop-row-preserved c =
    let held = λ (row : Row). amount_if (same_label row.label c.args.label.now) row.amount in
    c.plus-sum.ensures ∙ (λ j. plus (c.loop-row.invariant j) (c.amount_for.ensures j))
    ∙ sum_more held c.args.before c.args.rows.now c.loop-row.row-index _ c.loop-row-test.true
