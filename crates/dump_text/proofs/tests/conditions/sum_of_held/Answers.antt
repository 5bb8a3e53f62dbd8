use Rattle.std.proofs.Common.{ℕ, sym, ◌∙◌}
use Rattle.std.specs.Prelude.{◌==◌}
use Rattle.acct_base.specs.declared.amount.Amount.{Amount}
use Rattle.acct_base.specs.Amounts.{plus, amount_if}
use Rattle.shelf.proofs.FrontLemmas.{total_more}
use Rattle.dump_text.proofs.tests.conditions.sum_of_held.Goals as goal

pub loop-total-preserved : goal.loop-total-preserved
loop-total-preserved c =
    c.in_ok-sum.ensures.value ∙ (λ j. plus (c.loop-total.invariant j) (c.held.ensures j))
    ∙ sym (total_more (λ (t : ℕ × Amount). amount_if (t.0 == c.args.uid) t.1) c.args.totals.now c.loop-total.total-index _ c.loop-total-test.true)
