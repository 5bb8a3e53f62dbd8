use Rattle.std.proofs.Common.{◌≡◌, ◌+◌, ◌-◌, ◌<◌, ◌++◌, length, refl, subst, arith}
use Rattle.std.specs.Prelude.{codes}
use Rattle.script_text.specs.Cuts.{CutsAt, IsHeld}
use Rattle.script_text.proofs.CutLines.{found_cut, line_passed, lines_skipped, piece_ends, lacks_feed}
use Rattle.script_text.proofs.cutter.find_cut.Goals as goal
use Rattle.script_text.proofs.cutter.find_cut.Goals.{else-start-gt0-via-then-start-gt0+else-is_section, else-start-gt0-via-else-start-gt0}

pub returns-then-is_section-clause-cut : goal.returns-then-is_section-clause-cut
returns-then-is_section-clause-cut c = λ taken is.
    let same : length c.args.piece.now - length c.in-Some.behind.now ≡ taken = cc in
    let i = c.loop-text.invariant in
    subst (CutsAt c.args.held.now c.args.piece.now) same (found_cut c.args.held.now i.0 c.args.piece.now c.loop-text.rest.now c.in-Some.text.now c.in-Some.behind.now c.loop-text.head.now c.loop-text.start i.2 i.1 c.in-Some.ensures.found c.if-start-gt0.true (c.if-is_section.ensures.yes refl))

pub loop-text-preserved : goal.loop-text-preserved
loop-text-preserved c =
    let i = c.loop-text.invariant in
    let other : 0 < c.loop-text.start → c.loop-text.head.now ++ c.in-Some.text.now ≡ codes "section" → ⊥ = elim c.else-start-gt0.branch [
      | else-start-gt0-via-then-start-gt0+else-is_section w ↦ λ some same. w.if-is_section.ensures.no refl same
      | else-start-gt0-via-else-start-gt0 w ↦ λ some same. omega (arith, some, w.if-start-gt0.false)
    ] in
    let passed = line_passed c.args.held.now i.0 c.args.piece.now c.loop-text.rest.now c.in-Some.text.now c.in-Some.behind.now c.loop-text.head.now c.loop-text.start i.2 i.1 c.in-Some.ensures.found (lacks_feed c.in-Some.text.now c.in-Some.ensures.first) other in
    lines_skipped c.args.held.now c.args.piece.now c.in-Some.behind.now c.behind_other_lines-rest.result.now (length c.args.held.now + (length c.args.piece.now - length c.in-Some.behind.now)) passed c.behind_other_lines-rest.ensures

pub returns-clause-open : goal.returns-clause-open
returns-clause-open c = λ next is.
    let same : c.loop-text.start ≡ next = cc in
    let i = c.loop-text.invariant in
    subst (IsHeld (c.args.held.now ++ c.args.piece.now)) same (piece_ends c.args.held.now i.0 c.args.piece.now c.loop-text.rest.now c.loop-text.head.now c.loop-text.start i.2 i.1 (lacks_feed c.loop-text.rest.now c.in_default.ensures.none))
