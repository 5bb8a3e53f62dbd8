use Rattle.grace_core.specs.declared.event.Event.TheVariants as event
use Rattle.grace_core.proofs.Keeps.{made_or_not, outcome}
use Rattle.grace_core.proofs.machine.step.Goals as goal

pub returns-in-Enter-clause-good : goal.returns-in-Enter-clause-good
returns-in-Enter-clause-good c = made_or_not c.args.state.now c.enter.new.state (event.Enter c.in-Enter.hook) c.enter.result c.requires c.enter.ensures

pub returns-in-ClaimFirst-clause-good : goal.returns-in-ClaimFirst-clause-good
returns-in-ClaimFirst-clause-good c = outcome c.args.state.now c.claim_first.new.state (event.ClaimFirst c.in-ClaimFirst.hook c.in-ClaimFirst.job) c.claim_first.result c.requires c.claim_first.ensures.ok c.claim_first.ensures.err

pub returns-in-ClaimSecond-clause-good : goal.returns-in-ClaimSecond-clause-good
returns-in-ClaimSecond-clause-good c = outcome c.args.state.now c.claim_second.new.state (event.ClaimSecond c.in-ClaimSecond.hook) c.claim_second.result c.requires c.claim_second.ensures.ok c.claim_second.ensures.err

pub returns-in-Add-clause-good : goal.returns-in-Add-clause-good
returns-in-Add-clause-good c = outcome c.args.state.now c.add.new.state (event.Add c.in-Add.hook) c.add.result c.requires c.add.ensures.ok c.add.ensures.err

pub returns-in-Exit-clause-good : goal.returns-in-Exit-clause-good
returns-in-Exit-clause-good c = made_or_not c.args.state.now c.exit.new.state (event.Exit c.in-Exit.hook) c.exit.result c.requires c.exit.ensures

pub returns-in-Split-clause-good : goal.returns-in-Split-clause-good
returns-in-Split-clause-good c = outcome c.args.state.now c.split.new.state (event.Split c.in-Split.hook c.in-Split.n) c.split.result c.requires c.split.ensures.ok c.split.ensures.err

pub returns-in-Join-clause-good : goal.returns-in-Join-clause-good
returns-in-Join-clause-good c = outcome c.args.state.now c.join.new.state (event.Join c.in-Join.hook c.in-Join.other) c.join.result c.requires c.join.ensures.ok c.join.ensures.err

pub returns-in-Flip-clause-good : goal.returns-in-Flip-clause-good
returns-in-Flip-clause-good c = made_or_not c.args.state.now c.flip.new.state event.Flip c.flip.result c.requires c.flip.ensures

pub returns-in-LoadExits-clause-good : goal.returns-in-LoadExits-clause-good
returns-in-LoadExits-clause-good c = made_or_not c.args.state.now c.load_exits.new.state event.LoadExits c.load_exits.result c.requires c.load_exits.ensures

pub returns-in-TakeWord-clause-good : goal.returns-in-TakeWord-clause-good
returns-in-TakeWord-clause-good c = outcome c.args.state.now c.take_word.new.state event.TakeWord c.take_word.result c.requires c.take_word.ensures.ok c.take_word.ensures.err

pub returns-in-Reopen-clause-good : goal.returns-in-Reopen-clause-good
returns-in-Reopen-clause-good c = outcome c.args.state.now c.reopen.new.state event.Reopen c.reopen.result c.requires c.reopen.ensures.ok c.reopen.ensures.err
