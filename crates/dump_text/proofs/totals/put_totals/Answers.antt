use Rattle.dump_text.specs.Dump.{iface_text}
use Rattle.dump_text.proofs.PageLemmas.{puts_nothing, puts_more}
use Rattle.dump_text.proofs.totals.put_totals.Goals as goal

pub loop-total-preserved : goal.loop-total-preserved
loop-total-preserved g c = puts_more (iface_text c.args.names.now) c.as_slice-total-items.result.now c.loop-total.total-index _ c.loop-total-test.true c.loop-total.invariant c.put_total.ensures

pub loop-total-init : goal.loop-total-init
loop-total-init g c = puts_nothing c.args.page.now
