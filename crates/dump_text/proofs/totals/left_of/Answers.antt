use Rattle.std.proofs.Common.{sym, subst, ◌∙◌}
use Rattle.acct_base.specs.declared.amount.Amount.{Amount}
use Rattle.acct_base.specs.Amounts.{minus, IsAtMost}
use Rattle.shelf.specs.Phases.{recorded_app}
use Rattle.dump_text.proofs.TotalLemmas.{recorded_is_left, left_more}
use Rattle.dump_text.proofs.totals.left_of.Goals as goal

pub minus-left-requires : goal.minus-left-requires
minus-left-requires c = record {
  within = subst (λ (a : Amount). IsAtMost a c.loop-phase.left) (sym c.recorded.ensures)
      (subst (λ (a : Amount). IsAtMost (recorded_app c.args.uid c.phase-item.result) a) (sym c.loop-phase.invariant)
      (recorded_is_left c.args.phases.now c.args.total.now c.args.uid c.loop-phase.phase-index c.phase-item.result c.loop-phase-test.true c.phase-item.is c.requires.covered));
}

pub loop-phase-preserved : goal.loop-phase-preserved
loop-phase-preserved c =
    c.minus-left.ensures ∙ (λ i. minus (c.loop-phase.invariant i) (c.recorded.ensures i))
    ∙ left_more c.args.phases.now c.args.total.now c.args.uid c.loop-phase.phase-index c.phase-item.result c.loop-phase-test.true c.phase-item.is
