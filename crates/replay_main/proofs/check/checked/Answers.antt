use Rattle.std.proofs.Common.{◌≡◌, ◌∙◌, ℕ, List, Option, true, ap, sym, subst, Err, arith, rules}
use Rattle.std.proofs.lemmas.Result.{err_from_is_err_and}
use Rattle.replay_main.specs.declared.incoming.Incoming.{Incoming}
use Rattle.replay_main.specs.Reached.{IsRead, IsCheckedAs}
use Rattle.replay_main.proofs.Taking.{come_up_to}
use Rattle.replay_main.proofs.Counting.{capture_small}
use Rattle.replay_main.proofs.Outsides.{err_is, some_is}
use Rattle.replay_main.proofs.Coming.{may_come, section_shorter, counted_begins, counted_goes_on, counted_fails, counted_lacks_calls, counted_over}
use Rattle.replay_main.proofs.Unkept.{counted_kept, counted_alone, has_calls}
use Rattle.replay_main.proofs.check.checked.Goals as goal

pub loop-script-init : goal.loop-script-init
loop-script-init g c =
    let e = c.in_ok-script.ensures in
    record {
      so_far = counted_begins _ _ c.in_ok-script.script c.in_ok-script.field-0-0 e.come e.header e.counts e.within;
      count = c.begin.ensures.count;
    }

pub count-requires-clause-coming : goal.count-requires-clause-coming
count-requires-clause-coming g c = let s = c.loop-script.invariant.so_far in may_come _ _ c.loop-script.script s.0 s.1

pub count-requires-clause-within : goal.count-requires-clause-within
count-requires-clause-within g c = c.loop-script.invariant.so_far.2.within

pub returns-in_err-counted-clause-decides : goal.returns-in_err-counted-clause-decides
returns-in_err-counted-clause-decides g c = λ f is of.
    let p = err_from_is_err_and c.from_residual-in_err-counted.result c.from_residual-in_err-counted.ensures.1 in
    let e : f ≡ c.in_err-counted.field-0.0 = err_is _ _ _ is p.1 ∙ p.2 in
    counted_fails c.script_by_parts.ensures.syntax c.script_by_parts.ensures.limit _ _ _ c.loop-script.script c.count.new.self.parts f c.loop-script.invariant.so_far
    (c.in_err-counted.ensures.decides f (ap Err (sym e)) of)

pub resolve-requires-clause-section : goal.resolve-requires-clause-section
resolve-requires-clause-section g c =
    (counted_kept _ _ c.loop-script.script c.count.new.self c.in-Some.counted c.in-Kept.section c.in-Kept.is (some_is _ c.in_ok-counted.ensures.counted c.in-Some.is)).next.section

pub resolve-requires-clause-small : goal.resolve-requires-clause-small
resolve-requires-clause-small g c =
    capture_small c.loop-script.script.counts c.in-Kept.section (counted_kept _ _ c.loop-script.script c.count.new.self c.in-Some.counted c.in-Kept.section c.in-Kept.is (some_is _ c.in_ok-counted.ensures.counted c.in-Some.is)).next

pub returns-in_err-resolve-in-Kept-clause-decides : goal.returns-in_err-resolve-in-Kept-clause-decides
returns-in_err-resolve-in-Kept-clause-decides g c = λ f is of.
    let p = err_from_is_err_and c.from_residual-in_err-resolve-in-Kept.result c.from_residual-in_err-resolve-in-Kept.ensures.1 in
    let t = counted_kept _ _ c.loop-script.script c.count.new.self c.in-Some.counted c.in-Kept.section c.in-Kept.is (some_is _ c.in_ok-counted.ensures.counted c.in-Some.is) in
    counted_lacks_calls _ _ _ c.loop-script.script c.count.new.self c.in-Kept.section c.in_err-resolve-in-Kept.field-0.0 f c.loop-script.invariant.so_far t.open_before t.takes t.next
    (err_is _ _ _ is p.1 ∙ p.2) (λ line place is. c.in_err-resolve-in-Kept.ensures.bad line place (ap Err is)) (λ line is. c.in_err-resolve-in-Kept.ensures.missing line (ap Err is)) of

pub loop-script-smaller-in_ok-resolve-in-Kept : goal.loop-script-smaller-in_ok-resolve-in-Kept
loop-script-smaller-in_ok-resolve-in-Kept g c =
    let t = counted_kept _ _ c.loop-script.script c.count.new.self c.in-Some.counted c.in-Kept.section c.in-Kept.is (some_is _ c.in_ok-counted.ensures.counted c.in-Some.is) in
    section_shorter c.loop-script.script.counts c.count.new.self.counts c.in-Kept.section t.counts_are t.within

pub loop-script-preserved-in_ok-resolve-in-Kept : goal.loop-script-preserved-in_ok-resolve-in-Kept
loop-script-preserved-in_ok-resolve-in-Kept g c =
    let t = counted_kept _ _ c.loop-script.script c.count.new.self c.in-Some.counted c.in-Kept.section c.in-Kept.is (some_is _ c.in_ok-counted.ensures.counted c.in-Some.is) in
    record {
      so_far = counted_goes_on c.script_by_parts.ensures.grows _ _ _ c.loop-script.script c.count.new.self c.in-Kept.section _ c.loop-script.invariant.so_far t.next t.counts_are t.within t.takes c.in_ok-resolve-in-Kept.ensures.calls;
      count = omega (arith, c.loop-script.invariant.count, c.count.ensures.count);
    }

pub loop-script-smaller : goal.loop-script-smaller
loop-script-smaller g c =
    let t = counted_kept _ _ c.loop-script.script c.count.new.self c.in-Some.counted c.in-Kept.section c.in-Kept.is (some_is _ c.in_ok-counted.ensures.counted c.in-Some.is) in
    section_shorter c.loop-script.script.counts c.count.new.self.counts c.in-Kept.section t.counts_are t.within

pub loop-script-preserved : goal.loop-script-preserved
loop-script-preserved g c =
    let t = counted_kept _ _ c.loop-script.script c.count.new.self c.in-Some.counted c.in-Kept.section c.in-Kept.is (some_is _ c.in_ok-counted.ensures.counted c.in-Some.is) in
    record {
      so_far = counted_goes_on c.script_by_parts.ensures.grows _ _ _ c.loop-script.script c.count.new.self c.in-Kept.section _ c.loop-script.invariant.so_far t.next t.counts_are t.within t.takes c.in_ok-resolve-in-Kept.ensures.calls;
      count = omega (arith, c.loop-script.invariant.count, c.count.ensures.count);
    }

pub loop-script-smaller-in-Alone : goal.loop-script-smaller-in-Alone
loop-script-smaller-in-Alone g c =
    let a = counted_alone _ _ c.loop-script.script c.count.new.self c.in-Some.counted c.in-Alone.is (some_is _ c.in_ok-counted.ensures.counted c.in-Some.is) in
    section_shorter c.loop-script.script.counts c.count.new.self.counts a.0 a.1.counts_are a.1.within

pub loop-script-preserved-in-Alone : goal.loop-script-preserved-in-Alone
loop-script-preserved-in-Alone g c =
    let a = counted_alone _ _ c.loop-script.script c.count.new.self c.in-Some.counted c.in-Alone.is (some_is _ c.in_ok-counted.ensures.counted c.in-Some.is) in
    let t = a.1 in
    let calls = has_calls a.0 a.2 in
    record {
      so_far = counted_goes_on c.script_by_parts.ensures.grows _ _ _ c.loop-script.script c.count.new.self a.0 calls.0 c.loop-script.invariant.so_far t.next t.counts_are t.within t.takes calls.1;
      count = omega (arith, c.loop-script.invariant.count, c.count.ensures.count);
    }

pub returns-clause-counts : goal.returns-clause-counts
returns-clause-counts g c =
    let over : (c.loop-script.script.is_over ≡ true) × (c.count.new.self ≡ c.loop-script.script) × (c.count.new.source ≡ c.loop-script.source) = search rules in
    let at = counted_over _ _ c.loop-script.script c.loop-script.invariant.so_far over.0 in
    let counted : c.counts.result ≡ c.loop-script.script.counts = c.counts.ensures ∙ ap (λ (i : Incoming). i.counts) over.1 in (
      at.0,
      subst (λ (left : Option (List ℕ)). IsRead (g.S.Source.left c.args.source.now) left at.0) (ap g.S.Source.left (sym over.2)) at.1,
      subst (IsCheckedAs at.0) (sym counted) at.2,
    )

pub returns-in_err-counted-clause-bound : goal.returns-in_err-counted-clause-bound
returns-in_err-counted-clause-bound g c = let s = c.loop-script.invariant.so_far in come_up_to _ _ _ c.loop-script.script c.count.new.self.parts s.0 s.1 c.count.ensures.taken

pub returns-in_err-resolve-in-Kept-clause-bound : goal.returns-in_err-resolve-in-Kept-clause-bound
returns-in_err-resolve-in-Kept-clause-bound g c = let s = c.loop-script.invariant.so_far in come_up_to _ _ _ c.loop-script.script c.count.new.self.parts s.0 s.1 c.count.ensures.taken
