use Rattle.std.proofs.Common.{ap, get_or, ◌∙◌}
use Rattle.acct_base.specs.declared.amount.Amount.{Amount}
use Rattle.acct_base.specs.declared.amount.Row.{Row}
use Rattle.acct_base.specs.Amounts.{plus, zero_amount}
use Rattle.shelf.proofs.FrontLemmas.{sum_more}
use Rattle.dump_text.proofs.tests.conditions.sum_of_rows.Goals as goal

pub loop-row-preserved : goal.loop-row-preserved
loop-row-preserved c =
    let rows = c.args.rows.now in
    let i = c.loop-row.row-index in
    let other : Row = record { label = record { uid = 0; tag = 0; set = 0; iface = 0 }; amount = zero_amount } in
    c.in_ok-sum.ensures.value ∙ ap (λ (a : Amount). plus a (get_or rows i other).amount) c.loop-row.invariant
    ∙ sum_more (λ (row : Row). row.amount) c.args.before rows i other c.loop-row-test.true
