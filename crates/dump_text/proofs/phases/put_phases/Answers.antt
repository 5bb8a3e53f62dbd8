use Rattle.dump_text.specs.Dump.{phase_text}
use Rattle.dump_text.proofs.PageLemmas.{puts_nothing, puts_item}
use Rattle.dump_text.proofs.phases.put_phases.Goals as goal

pub loop-phase-preserved : goal.loop-phase-preserved
loop-phase-preserved g c = puts_item (phase_text c.args.names.now) c.phases-phase-items.result.now c.loop-phase.phase-index c.phase-item.result c.loop-phase-test.true c.phase-item.is c.loop-phase.invariant c.put_phase.ensures

pub loop-phase-init : goal.loop-phase-init
loop-phase-init g c = puts_nothing c.args.page.now
