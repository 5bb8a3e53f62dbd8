use Rattle.std.proofs.Common.{◌≡◌, ◌∙◌, sym, ap, subst, Err}
use Rattle.std.proofs.lemmas.Result.{err_from_is_err_and}
use Rattle.desk_core.specs.Ranges.{AreApps}
use Rattle.replay_main.proofs.Apps.{header_apps}
use Rattle.replay_main.proofs.Outsides.{err_is}
use Rattle.replay_main.proofs.Replaying.{room_at_end, plain_whole, plain_small, plain_covers}
use Rattle.replay_main.proofs.Coming.{replayed_begins, replayed_over}
use Rattle.replay_main.proofs.replay.replayed.Goals as goal

pub new-requires : goal.new-requires
new-requires g c = subst AreApps (sym c.as_slice.ensures) (header_apps c.in_ok-header.header c.in_ok-header.ensures.header)

pub loop-sections-init : goal.loop-sections-init
loop-sections-init g c =
    let e = c.in_ok-header.ensures in
    record {
      so_far = replayed_begins _ _ c.in_ok-header.script c.in_ok-header.header c.in_ok-plain.plain c.new-sections.result e.come e.header e.counts e.within c.in_ok-plain.ensures.keeps c.new-sections.ensures;
      count = c.begin.ensures.count;
    }

pub run_next-requires : goal.run_next-requires
run_next-requires g c = record { so_far = (_, (c.in_ok-header.header, (c.in_ok-plain.plain, (c.in_ok-plain.ensures.keeps, c.loop-sections.invariant.so_far)))) }

pub returns-in_err-run_next-clause-decides : goal.returns-in_err-run_next-clause-decides
returns-in_err-run_next-clause-decides g c = λ f is of.
    let p = err_from_is_err_and c.from_residual-in_err-run_next.result c.from_residual-in_err-run_next.ensures.1 in
    let e : f ≡ c.in_err-run_next.field-0.0 = err_is _ _ _ is p.1 ∙ p.2 in
    c.in_err-run_next.ensures.decides _ c.in_ok-header.header c.in_ok-plain.plain c.loop-sections.invariant.so_far f (ap Err (sym e)) of

pub finish-requires : goal.finish-requires
finish-requires g c =
    let n = c.run_next.new in
    let h = c.in_ok-header.header in
    let first = c.in_ok-plain.plain in
    let now = c.in_ok-run_next.ensures.goes_on _ h first c.loop-sections.invariant.so_far in
    let at = replayed_over _ _ n.script h first n.plain n.sections now (c.in_ok-run_next.ensures.over c.if-branch.false) in
    room_at_end at.0 h n.script.counts first n.plain n.sections at.2 c.in_ok-plain.ensures.keeps

pub returns-clause-report : goal.returns-clause-report
returns-clause-report g c =
    let n = c.run_next.new in
    let h = c.in_ok-header.header in
    let first = c.in_ok-plain.plain in
    let now = c.in_ok-run_next.ensures.goes_on _ h first c.loop-sections.invariant.so_far in
    let at = replayed_over _ _ n.script h first n.plain n.sections now (c.in_ok-run_next.ensures.over c.if-branch.false) in (
      at.0,
      at.1,
      plain_whole at.0 h n.script.counts first n.plain n.sections c.in_ok-report.report at.2 c.in_ok-plain.ensures.keeps c.in_ok-plain.ensures.sizes (c.in_ok-plain.ensures.privileged ∙ c.as_slice.ensures) c.in_ok-report.ensures
          c.serial_is_honest.ensures,
    )

pub returns-clause-small : goal.returns-clause-small
returns-clause-small g c =
    let n = c.run_next.new in
    let h = c.in_ok-header.header in
    let first = c.in_ok-plain.plain in
    let now = c.in_ok-run_next.ensures.goes_on _ h first c.loop-sections.invariant.so_far in
    let at = replayed_over _ _ n.script h first n.plain n.sections now (c.in_ok-run_next.ensures.over c.if-branch.false) in
    plain_small at.0 h n.script.counts first n.plain n.sections c.in_ok-report.report at.2 c.in_ok-plain.ensures.keeps c.in_ok-plain.ensures.sizes (c.in_ok-plain.ensures.privileged ∙ c.as_slice.ensures) c.in_ok-report.ensures
    c.honest_sums_are_small.ensures c.serial_is_honest.ensures

pub returns-clause-covers : goal.returns-clause-covers
returns-clause-covers g c =
    let n = c.run_next.new in
    let h = c.in_ok-header.header in
    let first = c.in_ok-plain.plain in
    let now = c.in_ok-run_next.ensures.goes_on _ h first c.loop-sections.invariant.so_far in
    let at = replayed_over _ _ n.script h first n.plain n.sections now (c.in_ok-run_next.ensures.over c.if-branch.false) in
    plain_covers at.0 h n.script.counts first n.plain n.sections c.in_ok-report.report at.2 c.in_ok-plain.ensures.keeps c.in_ok-plain.ensures.sizes (c.in_ok-plain.ensures.privileged ∙ c.as_slice.ensures) c.in_ok-report.ensures
    c.serial_deletions_are_covered.ensures

pub returns-in_err-run_next-clause-bound : goal.returns-in_err-run_next-clause-bound
returns-in_err-run_next-clause-bound g c = c.run_next.ensures.bound _ c.in_ok-header.header c.in_ok-plain.plain c.loop-sections.invariant.so_far

pub returns-in_err-report-clause-bound : goal.returns-in_err-report-clause-bound
returns-in_err-report-clause-bound g c = c.run_next.ensures.bound _ c.in_ok-header.header c.in_ok-plain.plain c.loop-sections.invariant.so_far

pub returns-clause-bound : goal.returns-clause-bound
returns-clause-bound g c = c.run_next.ensures.bound _ c.in_ok-header.header c.in_ok-plain.plain c.loop-sections.invariant.so_far
