use Rattle.std.proofs.Common.{rules, refl, sym}
use Rattle.grace_core.proofs.Keeps.{choice_below}
use Rattle.grace_core.proofs.InCode.{there, room, enters}
use Rattle.grace_core.proofs.hook_steps.enter.Goals as goal

pub overflow_add-state : goal.overflow_add-state
overflow_add-state c = let f = choice_below c.args.state.now c.requires in search (rules, f.1)

pub enter-requires-clause-there : goal.enter-requires-clause-there
enter-requires-clause-there c = there c.args.state.now c.requires c.args.hook c.in-Some.view.now (sym c.in-Some.ensures)

pub enter-requires-clause-fits : goal.enter-requires-clause-fits
enter-requires-clause-fits c = room c.args.state.now c.requires c.args.hook c.in-Some.view.now (sym c.in-Some.ensures) c.in-Outside.is c.if-view-eq0.false

pub returns : goal.returns
returns c = enters c.args.state.now c.requires c.args.hook c.in-Some.view.now (sym c.in-Some.ensures) c.in-Outside.is c.if-view-eq0.false _ c.enter.new.self refl c.enter.ensures
