-- The line that stands next in a text is one alone.
use Rattle.std.proofs.Common.{◌≡◌, ℕ, Bool, true, false, List, [], ◌∷◌, ◌++◌, refl, sym, ap, ◌∙◌}
use Rattle.std.specs.Prelude.{bytes_eq, ◌||◌}
use Rattle.std.specs.List.{list_any}
use Rattle.script_text.specs.declared.line.Line.{Line}
use Rattle.script_text.specs.Lines.{IsLine, spelled}
use Rattle.script_text.specs.Drafts.{second_of}
use Rattle.script_text.proofs.Lines.{same_first}

pub any_second : (name : List ℕ) (names : List (ℕ × List ℕ)) → list_any (λ (n : ℕ × List ℕ). bytes_eq n.1 name) names ≡ list_any (λ n. bytes_eq n name) (second_of names)
any_second name [] = refl
any_second name (n ∷ ns) = ap (λ (b : Bool). bytes_eq n.1 name || b) (any_second name ns)

pub true_false : true ≡ false → ⊥
true_false e = absurd cc

-- a test that the line in front fails, no line in front passes
pub fails_test : (test : Line → Bool) (l m : Line) (rest x y : List ℕ) → IsLine l → IsLine m → rest ≡ spelled l ++ x → rest ≡ spelled m ++ y → test l ≡ true → false ≡ test m → ⊥
fails_test test l m rest x y p q e f holds not = true_false (sym holds ∙ ap test (same_first l m x y p q (sym e ∙ f)).0 ∙ sym not)
