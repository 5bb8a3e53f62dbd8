use Rattle.std.proofs.Common.{◌≡◌, ◌∙◌, ap, sym, Err}
use Rattle.std.proofs.lemmas.Result.{err_from_is_err_and}
use Rattle.captures.specs.Lent.{section_calls}
use Rattle.replay_main.proofs.Taking.{come_up_to}
use Rattle.replay_main.proofs.Counting.{capture_small}
use Rattle.replay_main.proofs.Outsides.{err_is, some_is}
use Rattle.replay_main.proofs.Replaying.{room_for, phases_fit}
use Rattle.replay_main.proofs.Coming.{section_shorter, replayed_goes_on, replayed_fails, replayed_lacks_calls}
use Rattle.replay_main.proofs.replay.run_next.Goals as goal

pub returns-in_err-section-clause-decides : goal.returns-in_err-section-clause-decides
returns-in_err-section-clause-decides g c = λ was header first so f is of.
    let p = err_from_is_err_and c.from_residual.result c.from_residual.ensures.1 in
    let e : f ≡ c.in_err-section.field-0.0 = err_is _ _ _ is p.1 ∙ p.2 in
    replayed_fails c.script_by_parts.ensures.syntax c.script_by_parts.ensures.limit was _ _ c.args.script.now c.section.new.self.parts header first c.args.plain.now c.args.sections.now f so
    (c.in_err-section.ensures.decides f (ap Err (sym e)) of)

pub resolve-requires-clause-small : goal.resolve-requires-clause-small
resolve-requires-clause-small g c = capture_small c.args.script.now.counts c.in-Some.section (some_is _ c.in_ok-section.ensures.section c.in-Some.is)

pub returns-in_err-calls-in-Some-clause-decides : goal.returns-in_err-calls-in-Some-clause-decides
returns-in_err-calls-in-Some-clause-decides g c = λ was header first so f is of.
    let p = err_from_is_err_and c.from_residual-in_err-calls-in-Some.result c.from_residual-in_err-calls-in-Some.ensures.1 in
    let o = c.in_ok-section.ensures in
    let at = c.in-Some.is in
    let e = c.in_err-calls-in-Some.ensures in
    replayed_lacks_calls was _ _ c.args.script.now c.section.new.self header first c.args.plain.now c.args.sections.now c.in-Some.section c.in_err-calls-in-Some.field-0.0 f so (some_is _ o.was at) (some_is _ o.takes at) (some_is _ o.section at)
    (err_is _ _ _ is p.1 ∙ p.2) (λ line place is. e.bad line place (ap Err is)) (λ line is. e.missing line (ap Err is)) of

pub section-requires-in-Some-clause-room : goal.section-requires-in-Some-clause-room
section-requires-in-Some-clause-room g c =
    let o = c.in_ok-section.ensures in
    let at = c.in-Some.is in
    let r = c.requires.so_far in
    let so = r.1.1.1.1 in
    room_for so.0 r.1.0 c.args.script.now.counts c.section.new.self.counts r.1.1.0 c.args.plain.now c.args.sections.now c.in-Some.section (section_calls c.in_ok-calls-in-Some.calls) so.2 r.1.1.1.0
    (some_is _ o.counts at) (some_is _ o.within at) c.in_ok-calls-in-Some.ensures.calls

pub section-requires-in-Some-clause-phases : goal.section-requires-in-Some-clause-phases
section-requires-in-Some-clause-phases g c =
    let o = c.in_ok-section.ensures in
    let at = c.in-Some.is in
    let r = c.requires.so_far in
    let so = r.1.1.1.1 in
    phases_fit so.0 r.1.0 c.args.script.now.counts c.section.new.self.counts r.1.1.0 c.args.plain.now c.args.sections.now c.in-Some.section (section_calls c.in_ok-calls-in-Some.calls) so.2
    (some_is _ o.counts at) (some_is _ o.within at) c.in_ok-calls-in-Some.ensures.calls

pub returns-in_ok-push-in-Some-clause-goes_on : goal.returns-in_ok-push-in-Some-clause-goes_on
returns-in_ok-push-in-Some-clause-goes_on g c = λ was header first so.
    let o = c.in_ok-section.ensures in
    let at = c.in-Some.is in
    let ran = c.in_ok-out-in-Some.ensures in
    let made = c.in_ok-calls-in-Some in
    replayed_goes_on c.script_by_parts.ensures.grows was _ _ c.args.script.now c.section.new.self header first c.args.plain.now c.section-in-Some.new.self c.args.sections.now c.push.new.self c.in-Some.section
    (section_calls made.calls) c.in_ok-out-in-Some.out so (some_is _ o.section at) (some_is _ o.counts at) (some_is _ o.within at) (some_is _ o.takes at) made.ensures.calls made.ensures.ranges ran.walked ran.sizes ran.privileged ran.grown
    c.in_ok-push-in-Some.ensures.ok

pub returns-in_ok-push-in-Some-clause-longer : goal.returns-in_ok-push-in-Some-clause-longer
returns-in_ok-push-in-Some-clause-longer g c = λ ran.
    let o = c.in_ok-section.ensures in
    section_shorter c.args.script.now.counts c.section.new.self.counts c.in-Some.section (some_is _ o.counts c.in-Some.is) (some_is _ o.within c.in-Some.is)

pub returns-in_err-section-clause-bound : goal.returns-in_err-section-clause-bound
returns-in_err-section-clause-bound g c = λ was header first so. come_up_to was _ _ c.args.script.now c.section.new.self.parts so.0 so.1 c.section.ensures.taken

pub returns-in_err-calls-in-Some-clause-bound : goal.returns-in_err-calls-in-Some-clause-bound
returns-in_err-calls-in-Some-clause-bound g c = λ was header first so. come_up_to was _ _ c.args.script.now c.section.new.self.parts so.0 so.1 c.section.ensures.taken

pub returns-in_err-out-in-Some-clause-bound : goal.returns-in_err-out-in-Some-clause-bound
returns-in_err-out-in-Some-clause-bound g c = λ was header first so. come_up_to was _ _ c.args.script.now c.section.new.self.parts so.0 so.1 c.section.ensures.taken

pub returns-in_err-push-in-Some-clause-bound : goal.returns-in_err-push-in-Some-clause-bound
returns-in_err-push-in-Some-clause-bound g c = λ was header first so. come_up_to was _ _ c.args.script.now c.section.new.self.parts so.0 so.1 c.section.ensures.taken

pub returns-in-None-clause-bound : goal.returns-in-None-clause-bound
returns-in-None-clause-bound g c = λ was header first so. come_up_to was _ _ c.args.script.now c.section.new.self.parts so.0 so.1 c.section.ensures.taken

pub returns-in_ok-push-in-Some-clause-bound : goal.returns-in_ok-push-in-Some-clause-bound
returns-in_ok-push-in-Some-clause-bound g c = λ was header first so. come_up_to was _ _ c.args.script.now c.section.new.self.parts so.0 so.1 c.section.ensures.taken
