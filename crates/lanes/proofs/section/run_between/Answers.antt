use Rattle.lanes.proofs.GatherLemmas.{gathered}
use Rattle.lanes.proofs.section.run_between.Goals as goal

pub returns-in-Ok-clause-calls : goal.returns-in-Ok-clause-calls
returns-in-Ok-clause-calls g c =
    let engine = c.args.engine.now in
    let done = c.run_lines-pass.result in
    (gathered engine.sizes.calls engine.sizes c.args.crew.pass.has done.pass.has c.args.calls.now.lanes done.lanes.items c.run_lines-pass.ensures.did.lanes).whole

pub returns-in-Err-clause-calls : goal.returns-in-Err-clause-calls
returns-in-Err-clause-calls g c =
    let engine = c.args.engine.now in
    let done = c.run_lines-pass.result in
    (gathered engine.sizes.calls engine.sizes c.args.crew.pass.has done.pass.has c.args.calls.now.lanes done.lanes.items c.run_lines-pass.ensures.did.lanes).whole
