use Rattle.std.proofs.Common.{sym}
use Rattle.grace_core.proofs.InCode.{there, few_exits, exits}
use Rattle.grace_core.proofs.hook_steps.exit.Goals as goal

pub one_more-state-requires : goal.one_more-state-requires
one_more-state-requires c = few_exits c.args.state.now c.requires c.args.hook c.in-Some.view.now (sym c.in-Some.ensures) c.in-Inside.phase c.in-Inside.charges c.in-Inside.is

pub stand-requires : goal.stand-requires
stand-requires c = there c.args.state.now c.requires c.args.hook c.in-Some.view.now (sym c.in-Some.ensures)

pub returns : goal.returns
returns c = exits c.args.state.now c.requires c.args.hook c.in-Some.view.now (sym c.in-Some.ensures) c.in-Inside.phase c.in-Inside.charges c.in-Inside.is c.one_more-state.result c.stand.new.self c.one_more-state.ensures c.stand.ensures
