use Rattle.std.proofs.Common.{subst, get_or}
use Rattle.acct_base.specs.declared.amount.Amount.{Amount}
use Rattle.acct_base.specs.Amounts.{zero_amount}
use Rattle.dump_text.specs.Dump.{app_left_text, app_unless_zero}
use Rattle.dump_text.specs.Pages.{Puts}
use Rattle.dump_text.proofs.PageLemmas.{puts_more}
use Rattle.dump_text.proofs.totals.put_apps_left.Goals as goal

pub left_of-requires : goal.left_of-requires
left_of-requires g c = record { covered = c.requires.covered c.loop-app.app-index _ c.loop-app-test.true }

pub loop-app-preserved : goal.loop-app-preserved
loop-app-preserved g c =
    puts_more (app_left_text c.args.phases.now) c.args.apps.now c.loop-app.app-index _ c.loop-app-test.true c.loop-app.invariant
    (subst (λ (left : Amount). Puts g.K.Sink.written g.K.Sink.faults c.loop-app.page c.put_unless_zero.new.page (app_unless_zero (get_or c.args.apps.now c.loop-app.app-index (0, zero_amount)).0 left)) c.left_of.ensures c.put_unless_zero.ensures)
