use Rattle.std.proofs.Common.{◌≡◌, ◌∙◌, ℕ, List, Option, ap, sym, subst, Err, arith}
use Rattle.std.proofs.lemmas.Result.{err_from_is_err_and}
use Rattle.replay_main.specs.declared.incoming.Incoming.{Incoming}
use Rattle.replay_main.specs.OnEngine.{IsCallsFault, RanSoFar}
use Rattle.replay_main.proofs.Taking.{come_up_to}
use Rattle.replay_main.proofs.Coming.{may_come, section_shorter}
use Rattle.replay_main.proofs.Counting.{capture_small}
use Rattle.replay_main.proofs.EngineRan.{may_run, ran_goes_on, ran_fails, ran_lacks_calls}
use Rattle.replay_main.proofs.Outsides.{err_is, some_is, none_is}
use Rattle.replay_main.proofs.on_engine.run_all.Goals as goal

pub section-requires-clause-coming : goal.section-requires-clause-coming
section-requires-clause-coming g c =
    let r = c.requires.so_far in
    let so = c.loop-crew.invariant.so_far r.0 r.1.0 r.1.1 in
    may_come _ _ _ so.0 so.1

pub section-requires-clause-within : goal.section-requires-clause-within
section-requires-clause-within g c =
    let r = c.requires.so_far in
    (c.loop-crew.invariant.so_far r.0 r.1.0 r.1.1).2.within

pub returns-in_err-section-clause-decides : goal.returns-in_err-section-clause-decides
returns-in_err-section-clause-decides g c = λ was header so f is of.
    let p = err_from_is_err_and c.from_residual.result c.from_residual.ensures.1 in
    let e : f ≡ c.in_err-section.field-0.0 = err_is _ _ _ is p.1 ∙ p.2 in
    ran_fails c.script_by_parts.ensures.syntax c.script_by_parts.ensures.limit was _ _ c.loop-crew.script c.section.new.self.parts header c.args.engine.now c.loop-crew.crew c.loop-crew.sections f
    (c.loop-crew.invariant.so_far was header so) (c.in_err-section.ensures.decides f (ap Err (sym e)) of)

pub run_one-requires-clause-small : goal.run_one-requires-clause-small
run_one-requires-clause-small g c = λ κs outlive. capture_small c.loop-crew.script.counts c.in-Some.section (some_is _ c.in_ok-section.ensures.section c.in-Some.is)

pub run_one-requires-clause-crew : goal.run_one-requires-clause-crew
run_one-requires-clause-crew g c = λ κs outlive.
    let r = c.requires.so_far in
    (c.loop-crew.invariant.so_far r.0 r.1.0 r.1.1).2.ready

pub run_one-requires-clause-room : goal.run_one-requires-clause-room
run_one-requires-clause-room g c = λ κs outlive calls are.
    let r = c.requires.so_far in
    let so = c.loop-crew.invariant.so_far r.0 r.1.0 r.1.1 in
    let o = c.in_ok-section.ensures in
    may_run so.0 r.1.0 c.loop-crew.script.counts c.section.new.self.counts c.args.engine.now c.loop-crew.crew c.loop-crew.sections c.in-Some.section so.2 (some_is _ o.counts c.in-Some.is) (some_is _ o.within c.in-Some.is) calls are

pub returns-in_err-crew-clause-decides : goal.returns-in_err-crew-clause-decides
returns-in_err-crew-clause-decides g c = λ was header so f is of.
    let p = err_from_is_err_and c.from_residual-in_err-crew.result c.from_residual-in_err-crew.ensures.1 in
    let e : f ≡ c.in_err-crew.field-0.0 = err_is _ _ _ is p.1 ∙ p.2 in
    let o = c.in_ok-section.ensures in
    let at = c.in-Some.is in
    let fails = c.in_err-crew.ensures in
    ran_lacks_calls was _ _ c.loop-crew.script c.section.new.self header c.args.engine.now c.loop-crew.crew c.loop-crew.sections c.in-Some.section f (c.loop-crew.invariant.so_far was header so) (some_is _ o.was at) (some_is _ o.takes at)
    (some_is _ o.section at) (subst IsCallsFault (sym e) fails.faults) (λ line place k. fails.bad line place (ap Err (sym e ∙ k))) (λ line k. fails.missing line (ap Err (sym e ∙ k))) of

pub loop-crew-smaller-in_ok-crew : goal.loop-crew-smaller-in_ok-crew
loop-crew-smaller-in_ok-crew g c =
    let o = c.in_ok-section.ensures in
    section_shorter c.loop-crew.script.counts c.section.new.self.counts c.in-Some.section (some_is _ o.counts c.in-Some.is) (some_is _ o.within c.in-Some.is)

pub loop-crew-preserved-in_ok-crew : goal.loop-crew-preserved-in_ok-crew
loop-crew-preserved-in_ok-crew g c =
    let o = c.in_ok-section.ensures in
    let at = c.in-Some.is in
    record {
      so_far = λ was header so.
          ran_goes_on c.script_by_parts.ensures.grows was _ _ c.loop-crew.script c.section.new.self header c.args.engine.now c.loop-crew.crew c.in_ok-crew.crew c.loop-crew.sections c.run_one.new.sections c.in-Some.section
          (c.loop-crew.invariant.so_far was header so) (some_is _ o.section at) (some_is _ o.counts at) (some_is _ o.within at) (some_is _ o.takes at) c.in_ok-crew.ensures.ran;
      count = omega (arith, c.loop-crew.invariant.count, c.section.ensures.count);
    }

pub loop-crew-smaller : goal.loop-crew-smaller
loop-crew-smaller g c =
    let o = c.in_ok-section.ensures in
    section_shorter c.loop-crew.script.counts c.section.new.self.counts c.in-Some.section (some_is _ o.counts c.in-Some.is) (some_is _ o.within c.in-Some.is)

pub loop-crew-preserved : goal.loop-crew-preserved
loop-crew-preserved g c =
    let o = c.in_ok-section.ensures in
    let at = c.in-Some.is in
    record {
      so_far = λ was header so.
          ran_goes_on c.script_by_parts.ensures.grows was _ _ c.loop-crew.script c.section.new.self header c.args.engine.now c.loop-crew.crew c.in_ok-crew.crew c.loop-crew.sections c.run_one.new.sections c.in-Some.section
          (c.loop-crew.invariant.so_far was header so) (some_is _ o.section at) (some_is _ o.counts at) (some_is _ o.within at) (some_is _ o.takes at) c.in_ok-crew.ensures.ran;
      count = omega (arith, c.loop-crew.invariant.count, c.section.ensures.count);
    }

pub returns-clause-ran : goal.returns-clause-ran
returns-clause-ran g c = λ was header so.
    let end = none_is c.in_ok-section.ensures.none c.in_default.is in
    let left = ap g.S.Source.left end.2 in
    let now = c.loop-crew.invariant.so_far was header so in (
      subst (λ (i : Incoming). RanSoFar was (g.S.Source.left c.section.new.source) i header c.args.engine.now c.loop-crew.crew c.loop-crew.sections) (sym end.1)
          (subst (λ (l : Option (List ℕ)). RanSoFar was l c.loop-crew.script header c.args.engine.now c.loop-crew.crew c.loop-crew.sections) (sym left) now),
      ap (λ (i : Incoming). i.is_over) end.1 ∙ end.0,
    )

pub returns-in_err-section-clause-bound : goal.returns-in_err-section-clause-bound
returns-in_err-section-clause-bound g c = λ was header so.
    let now = c.loop-crew.invariant.so_far was header so in
    come_up_to was _ _ c.loop-crew.script c.section.new.self.parts now.0 now.1 c.section.ensures.taken

pub returns-in_err-crew-clause-bound : goal.returns-in_err-crew-clause-bound
returns-in_err-crew-clause-bound g c = λ was header so.
    let now = c.loop-crew.invariant.so_far was header so in
    come_up_to was _ _ c.loop-crew.script c.section.new.self.parts now.0 now.1 c.section.ensures.taken

pub returns-clause-bound : goal.returns-clause-bound
returns-clause-bound g c = λ was header so.
    let now = c.loop-crew.invariant.so_far was header so in
    come_up_to was _ _ c.loop-crew.script c.section.new.self.parts now.0 now.1 c.section.ensures.taken
