use Rattle.std.proofs.Common.{sym, ◌∙◌}
use Rattle.acct_base.specs.Amounts.{plus}
use Rattle.shelf.proofs.FrontLemmas.{total_more}
use Rattle.replay_main.specs.Summary.{row_amount}
use Rattle.replay_main.proofs.summary.rows_sum.Goals as goal

pub loop-row-preserved : goal.loop-row-preserved
loop-row-preserved c =
    c.in_ok-sum.ensures ∙ (λ j. plus (c.loop-row.invariant j) (c.row_amount.ensures j))
    ∙ sym (total_more (row_amount c.args.tagged) c.args.rows.now c.loop-row.row-index _ c.loop-row-test.true)
