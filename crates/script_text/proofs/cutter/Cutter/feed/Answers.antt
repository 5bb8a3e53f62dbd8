use Rattle.std.proofs.Common.{ℕ, List, ◌++◌, refl, sym, ap, subst, ◌∙◌}
use Rattle.script_text.specs.Cuts.{IsHeld}
use Rattle.script_text.proofs.CutLines.{section_held}
use Rattle.script_text.proofs.cutter.Cutter.feed.Goals as goal

pub invariant_of-self-in-Open : goal.invariant_of-self-in-Open
invariant_of-self-in-Open c =
    let held = subst (λ (h : List ℕ). IsHeld (h ++ c.args.piece.now) c.in-Open.line) c.as_slice.ensures.value (c.in-Open.ensures.open c.in-Open.line refl) in
    subst (λ (b : List ℕ). IsHeld b c.in-Open.line) (sym c.in_ok-extend_from_slice-in-Open.ensures.items) held

pub invariant_of-self-in-Cut : goal.invariant_of-self-in-Cut
invariant_of-self-in-Cut c = subst (λ (b : List ℕ). IsHeld b 8) (sym c.in_ok-part-in-Cut.ensures.held) section_held

pub returns-in_ok-extend_from_slice-in-Open-clause-feeds : goal.returns-in_ok-extend_from_slice-in-Open-clause-feeds
returns-in_ok-extend_from_slice-in-Open-clause-feeds c =
    let items = c.in_ok-extend_from_slice-in-Open.ensures.items in
    let held = subst (λ (h : List ℕ). IsHeld (h ++ c.args.piece.now) c.in-Open.line) c.as_slice.ensures.value (c.in-Open.ensures.open c.in-Open.line refl) in
    (items ∙ ap (λ (t : List ℕ). t ++ c.args.piece.now) c.self.view_is, (subst (λ (b : List ℕ). IsHeld b c.in-Open.line) (sym items) held).1.uncut)
