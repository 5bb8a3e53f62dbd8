use Rattle.std.proofs.Common.{rules, sym}
use Rattle.grace_core.proofs.InCode.{there, joined_calls, still_there}
use Rattle.grace_core.proofs.hook_steps.join.Goals as goal

pub overflow_add-joined : goal.overflow_add-joined
overflow_add-joined c = let f = joined_calls c.args.state.now c.requires c.args.hook c.in-Some.view.now (sym c.in-Some.ensures) c.args.other c.in-Some-get.second.now (sym c.in-Some-get.ensures) c.in-Outside.is c.in-Outside-at.is in search (rules, f.0)

pub overflow_add-joined-2 : goal.overflow_add-joined-2
overflow_add-joined-2 c = let f = joined_calls c.args.state.now c.requires c.args.hook c.in-Some.view.now (sym c.in-Some.ensures) c.args.other c.in-Some-get.second.now (sym c.in-Some-get.ensures) c.in-Outside.is c.in-Outside-at.is in search (rules, f.1)

pub set-requires : goal.set-requires
set-requires c = there c.args.state.now c.requires c.args.hook c.in-Some.view.now (sym c.in-Some.ensures)

pub set-requires-2 : goal.set-requires-2
set-requires-2 c = still_there c.args.state.now.hooks c.set.new.self c.args.hook c.args.other c.in-Some-get.second.now _ (sym c.in-Some-get.ensures) c.set.ensures
