use Rattle.std.proofs.Common.{sym}
use Rattle.grace_core.specs.declared.view.At.TheVariants.{Outside}
use Rattle.grace_core.proofs.InCode.{splits}
use Rattle.grace_core.proofs.hook_steps.split.Goals as goal

pub returns-clause-ok : goal.returns-clause-ok
returns-clause-ok c = splits c.args.state.now c.requires c.args.hook c.in-Some.view.now (sym c.in-Some.ensures) c.args.n c.in-Outside.is c.if-n-view.false _ c.push.new.self c.cut.new.self
    (λ i. record { left = c.args.n; made = 0; phase = c.in-Some.view.now.phase; at = Outside; list = c.new.ensures i }) c.in_ok-push.ensures.ok c.cut.ensures
