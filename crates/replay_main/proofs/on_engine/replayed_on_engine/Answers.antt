use Rattle.std.proofs.Common.{◌≡◌, ◌∙◌, ap, sym, subst, Result, Err}
use Rattle.std.specs.Prelude.{IfErr}
use Rattle.std.proofs.lemmas.Result.{err_from_is_err_and}
use Rattle.shelf.specs.declared.report.Report.{Report}
use Rattle.replay_main.specs.declared.fault.Fault.{Fault}
use Rattle.replay_main.specs.Faults.{IsJudgingFault}
use Rattle.replay_main.proofs.EngineRan.{ran_begins, ran_over, replayed_whole, replayed_small, replayed_covers}
use Rattle.replay_main.proofs.Outsides.{err_is}
use Rattle.replay_main.proofs.on_engine.replayed_on_engine.Goals as goal

pub run_all-requires-clause-so_far : goal.run_all-requires-clause-so_far
run_all-requires-clause-so_far g c = λ κs outlive.
    let e = c.in_ok-header.ensures in
    (_, (c.in_ok-header.header, ran_begins _ _ c.in_ok-header.script c.in_ok-header.header c.in_ok-engine.engine c.in_ok-engine.crew c.new-sections.result e.come e.header e.counts e.within c.in_ok-engine.ensures.opened c.new-sections.ensures))

pub returns-in_err-crew-clause-decides : goal.returns-in_err-crew-clause-decides
returns-in_err-crew-clause-decides g c = λ f is of.
    let e = c.in_ok-header.ensures in
    let p = err_from_is_err_and c.from_residual-in_err-crew.result c.from_residual-in_err-crew.ensures.1 in
    let same : f ≡ c.in_err-crew.field-0.0 = err_is _ _ _ is p.1 ∙ p.2 in
    c.in_err-crew.ensures.decides _ c.in_ok-header.header
    (ran_begins _ _ c.in_ok-header.script c.in_ok-header.header c.in_ok-engine.engine c.in_ok-engine.crew c.new-sections.result e.come e.header e.counts e.within c.in_ok-engine.ensures.opened c.new-sections.ensures) f (ap Err (sym same)) of

pub returns-in_err-crew-clause-faults : goal.returns-in_err-crew-clause-faults
returns-in_err-crew-clause-faults g c =
    let p = err_from_is_err_and c.from_residual-in_err-crew.result c.from_residual-in_err-crew.ensures.1 in
    subst (λ (r : Result Report Fault). IfErr r IsJudgingFault) (sym (p.1 ∙ ap Err p.2)) c.in_err-crew.ensures.faults

pub ended-requires-clause-crew : goal.ended-requires-clause-crew
ended-requires-clause-crew g c =
    let e = c.in_ok-header.ensures in
    let begins = ran_begins _ _ c.in_ok-header.script c.in_ok-header.header c.in_ok-engine.engine c.in_ok-engine.crew c.new-sections.result e.come e.header e.counts e.within c.in_ok-engine.ensures.opened c.new-sections.ensures in
    (c.in_ok-crew.ensures.ran _ c.in_ok-header.header begins).0.2.ready

pub returns-clause-report : goal.returns-clause-report
returns-clause-report g c =
    let e = c.in_ok-header.ensures in
    let h = c.in_ok-header.header in
    let begins = ran_begins _ _ c.in_ok-header.script h c.in_ok-engine.engine c.in_ok-engine.crew c.new-sections.result e.come e.header e.counts e.within c.in_ok-engine.ensures.opened c.new-sections.ensures in
    let ran = c.in_ok-crew.ensures.ran _ h begins in
    let at = ran_over _ _ c.run_all.new.script h c.in_ok-engine.engine c.in_ok-crew.crew c.run_all.new.sections ran.0 ran.1 in
    let rest = c.ended.ensures.rest in
    let laws = c.replays_on_engines.ensures in (
      at.0,
      at.1,
      replayed_whole at.0 h c.run_all.new.script.counts c.in_ok-engine.engine c.in_ok-crew.crew c.run_all.new.sections c.ended.result rest.0 at.2 rest.1 rest.2 laws.honest laws.told laws.serial _ _ c.ended.ensures.told,
    )

pub returns-clause-small : goal.returns-clause-small
returns-clause-small g c =
    let e = c.in_ok-header.ensures in
    let h = c.in_ok-header.header in
    let begins = ran_begins _ _ c.in_ok-header.script h c.in_ok-engine.engine c.in_ok-engine.crew c.new-sections.result e.come e.header e.counts e.within c.in_ok-engine.ensures.opened c.new-sections.ensures in
    let ran = c.in_ok-crew.ensures.ran _ h begins in
    let at = ran_over _ _ c.run_all.new.script h c.in_ok-engine.engine c.in_ok-crew.crew c.run_all.new.sections ran.0 ran.1 in
    let rest = c.ended.ensures.rest in
    replayed_small at.0 h c.run_all.new.script.counts c.in_ok-engine.engine c.in_ok-crew.crew c.run_all.new.sections c.ended.result rest.0 at.2 rest.1 rest.2 c.honest_sums_are_small.ensures c.replays_on_engines.ensures.honest

pub returns-clause-covers : goal.returns-clause-covers
returns-clause-covers g c =
    let e = c.in_ok-header.ensures in
    let h = c.in_ok-header.header in
    let begins = ran_begins _ _ c.in_ok-header.script h c.in_ok-engine.engine c.in_ok-engine.crew c.new-sections.result e.come e.header e.counts e.within c.in_ok-engine.ensures.opened c.new-sections.ensures in
    let ran = c.in_ok-crew.ensures.ran _ h begins in
    let at = ran_over _ _ c.run_all.new.script h c.in_ok-engine.engine c.in_ok-crew.crew c.run_all.new.sections ran.0 ran.1 in
    let rest = c.ended.ensures.rest in
    replayed_covers at.0 h c.run_all.new.script.counts c.in_ok-engine.engine c.in_ok-crew.crew c.run_all.new.sections c.ended.result rest.0 at.2 rest.1 rest.2 c.replay_deletions_are_covered.ensures

pub returns-in_err-crew-clause-bound : goal.returns-in_err-crew-clause-bound
returns-in_err-crew-clause-bound g c =
    let e = c.in_ok-header.ensures in
    c.run_all.ensures.bound _ c.in_ok-header.header
    (ran_begins _ _ c.in_ok-header.script c.in_ok-header.header c.in_ok-engine.engine c.in_ok-engine.crew c.new-sections.result e.come e.header e.counts e.within c.in_ok-engine.ensures.opened c.new-sections.ensures)

pub returns-clause-bound : goal.returns-clause-bound
returns-clause-bound g c =
    let e = c.in_ok-header.ensures in
    c.run_all.ensures.bound _ c.in_ok-header.header
    (ran_begins _ _ c.in_ok-header.script c.in_ok-header.header c.in_ok-engine.engine c.in_ok-engine.crew c.new-sections.result e.come e.header e.counts e.within c.in_ok-engine.ensures.opened c.new-sections.ensures)
