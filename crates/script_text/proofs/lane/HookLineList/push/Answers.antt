use Rattle.std.proofs.Common.{ℕ, ◌<◌, List, [], ◌∷◌, ◌++◌, length, map, sym, ap, subst, ◌∙◌, arith, length-append}
use Rattle.std.specs.List.{AllByRecursion}
use Rattle.script_text.specs.declared.hook_line.HookLine.{HookLine}
use Rattle.script_text.specs.declared.lane.HeadPlace.{HeadPlace}
use Rattle.script_text.specs.Lines.{LaneLine}
use Rattle.script_text.specs.Lanes.{numbered, with_head, HeadStands, ComesNext}
use Rattle.script_text.proofs.LaneLines.{lane_same, lane_push, lane_stands, lane_stands_push, lane_next, err_fact}
use Rattle.script_text.proofs.lane.HookLineList.push.Goals as goal

pub returns-in_err-kept-clause-err : goal.returns-in_err-kept-clause-err
returns-in_err-kept-clause-err c =
    err_fact _ _ (lane_same c.self.inside.first c.self.inside.heads.items c.keep.new.heads.items c.keep.ensures.more.0 c.self.inside.lines c.keep.ensures.more.1 c.self.invariant.0 ∙ c.self.view_is)

pub invariant_of-self-in_err-push : goal.invariant_of-self-in_err-push
invariant_of-self-in_err-push c =
    let same = c.in_err-push.ensures.err in
    let stands = lane_stands c.self.inside.heads.items c.keep.new.heads.items c.keep.ensures.more.0 c.self.inside.lines c.keep.ensures.more.1 c.self.invariant.0 in (
      subst (AllByRecursion (HeadStands (length c.keep.new.heads.items))) (sym same) stands,
      omega (arith, ap length same, c.self.invariant.1),
    )

pub returns-in_err-push-clause-err : goal.returns-in_err-push-clause-err
returns-in_err-push-clause-err c =
    err_fact _ _ (
    ap (λ (ls : List (HookLine HeadPlace)). numbered c.self.inside.first (map (with_head c.keep.new.heads.items) ls)) c.in_err-push.ensures.err
    ∙ lane_same c.self.inside.first c.self.inside.heads.items c.keep.new.heads.items c.keep.ensures.more.0 c.self.inside.lines c.keep.ensures.more.1 c.self.invariant.0 ∙ c.self.view_is
    )

pub invariant_of-self-else-len-eq1 : goal.invariant_of-self-else-len-eq1
invariant_of-self-else-len-eq1 c =
    let ok = c.in_ok-push.ensures.ok in
    let size = ap length ok in
    let one = length-append c.self.inside.lines (c.in_ok-kept.kept ∷ []) in
    let some : 0 < length c.self.inside.lines = omega (arith, size, one, c.len.ensures, c.if-len-eq1.false) in
    let next = subst (λ (ls : List (ℕ × LaneLine)). ComesNext ls c.args.number) (sym c.self.view_is) c.requires.next in
    let number = lane_next c.self.inside.first c.args.number c.self.inside.heads.items c.self.inside.lines next some in (
      lane_stands_push c.self.inside.heads.items c.keep.new.heads.items c.keep.ensures.more.0 c.self.inside.lines c.push.new.self c.in_ok-kept.kept c.keep.ensures.more.1 c.self.invariant.0 c.in_ok-kept.ensures.stands ok,
      omega (arith, size, one, number, c.requires.fits),
    )

pub returns-else-len-eq1-clause-ok : goal.returns-else-len-eq1-clause-ok
returns-else-len-eq1-clause-ok c =
    let ok = c.in_ok-push.ensures.ok in
    let size = ap length ok in
    let one = length-append c.self.inside.lines (c.in_ok-kept.kept ∷ []) in
    let some : 0 < length c.self.inside.lines = omega (arith, size, one, c.len.ensures, c.if-len-eq1.false) in
    let next = subst (λ (ls : List (ℕ × LaneLine)). ComesNext ls c.args.number) (sym c.self.view_is) c.requires.next in
    lane_push c.self.inside.first c.args.number c.self.inside.heads.items c.keep.new.heads.items c.keep.ensures.more.0 c.self.inside.lines c.push.new.self c.in_ok-kept.kept c.args.line c.keep.ensures.more.1 c.self.invariant.0 ok c.in_ok-kept.ensures.line next some
    ∙ ap (λ (ls : List (ℕ × LaneLine)). ls ++ (c.args.number, c.args.line) ∷ []) c.self.view_is
