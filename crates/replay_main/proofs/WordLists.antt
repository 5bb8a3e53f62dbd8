-- Lists of words, and the words of the forms.
use Rattle.std.proofs.Common.{◌≡◌, ◌∙◌, ap, get_or, ℕ, List, [], ◌∷◌, Some, refl, sym, arith, length}
use Rattle.std.specs.Prelude.{slice_get, ◌↔◌, decimal, Option}
use Rattle.std.proofs.lemmas.Fmt.{decimal_injective}
use Rattle.outside.specs.Generated.{generated}
use Rattle.replay_main.specs.declared.words.Form.{Form}
use Rattle.replay_main.specs.declared.words.Form.TheVariants.{Replay, Plain, Check, Gen, Bulk}
use Rattle.replay_main.specs.Words.{words_of, AskFor, IsPlainForm, IsGenerated, IsInRange, AreNoForm, AreNoPlainForm}
use Rattle.replay_main.specs.Run.{judged_text}

pub one_word : (words : List (List ℕ)) (word : List ℕ) → length words ≡ 1 → Some word ≡ slice_get words 0 → words ≡ word ∷ []
one_word [] word one first = absurd (omega (arith, one))
one_word (w ∷ []) word one first = let same : word ≡ w = cc in rw same refl
one_word (w ∷ v ∷ words) word one first = absurd (omega (arith, one))

pub two_words : (words : List (List ℕ)) (word other : List ℕ) → length words ≡ 2 → Some word ≡ slice_get words 0 → Some other ≡ slice_get words 1 → words ≡ word ∷ other ∷ []
two_words [] word other two first second = absurd (omega (arith, two))
two_words (w ∷ []) word other two first second = absurd (omega (arith, two))
two_words (w ∷ v ∷ []) word other two first second = let same : word ≡ w = cc in let also : other ≡ v = cc in rw (same, also) refl
two_words (w ∷ v ∷ u ∷ words) word other two first second = absurd (omega (arith, two))

-- ---- words ask for one form

-- the first letters of the words of forms differ
abbrev pub letter : List (List ℕ) → ℕ
letter words = get_or (get_or words 0 []) 0 0

abbrev pub letter_of : Form → ℕ
letter_of (Replay receipts) = 114
letter_of (Plain receipts) = 112
letter_of Check = 99
letter_of (Gen rounds) = 103
letter_of (Bulk rounds) = 98

letter_is : (f : Form) → letter (words_of f) ≡ letter_of f
letter_is (Replay receipts) = refl
letter_is (Plain receipts) = refl
letter_is Check = refl
letter_is (Gen rounds) = refl
letter_is (Bulk rounds) = refl

pub one_letter : (words : List (List ℕ)) (f g : Form) → AskFor words f → AskFor words g → letter_of f ≡ letter_of g
one_letter words f g a b = sym (letter_is f) ∙ ap letter (sym a.1 ∙ b.1) ∙ letter_is g

plain_by : (f g : Form) → letter_of f ≡ letter_of g → IsPlainForm g → IsPlainForm f
plain_by (Plain a) g e is = tt
plain_by Check g e is = tt
plain_by (Gen a) g e is = tt
plain_by (Replay a) (Replay b) e is = is
plain_by (Replay a) (Plain b) e is = absurd (omega (arith, e))
plain_by (Replay a) Check e is = absurd (omega (arith, e))
plain_by (Replay a) (Gen b) e is = absurd (omega (arith, e))
plain_by (Replay a) (Bulk b) e is = is
plain_by (Bulk a) (Replay b) e is = is
plain_by (Bulk a) (Plain b) e is = absurd (omega (arith, e))
plain_by (Bulk a) Check e is = absurd (omega (arith, e))
plain_by (Bulk a) (Gen b) e is = absurd (omega (arith, e))
plain_by (Bulk a) (Bulk b) e is = is

pub plain_too : (words : List (List ℕ)) (f g : Form) → AskFor words f → AskFor words g → IsPlainForm g → IsPlainForm f
plain_too words f g a b is = plain_by f g (one_letter words f g a b) is

generated_by : (f g : Form) → letter_of f ≡ letter_of g → IsGenerated f → IsGenerated g
generated_by (Replay a) g e is = absurd is
generated_by (Plain a) g e is = absurd is
generated_by Check g e is = absurd is
generated_by (Gen a) (Replay b) e is = absurd (omega (arith, e))
generated_by (Gen a) (Plain b) e is = absurd (omega (arith, e))
generated_by (Gen a) Check e is = absurd (omega (arith, e))
generated_by (Gen a) (Gen b) e is = tt
generated_by (Gen a) (Bulk b) e is = tt
generated_by (Bulk a) (Replay b) e is = absurd (omega (arith, e))
generated_by (Bulk a) (Plain b) e is = absurd (omega (arith, e))
generated_by (Bulk a) Check e is = absurd (omega (arith, e))
generated_by (Bulk a) (Gen b) e is = tt
generated_by (Bulk a) (Bulk b) e is = tt

pub generated_too : (words : List (List ℕ)) (f g : Form) → AskFor words f → AskFor words g → IsGenerated f → IsGenerated g
generated_too words f g a b is = generated_by f g (one_letter words f g a b) is

-- words of `gen` are those of no other form
pub no_gen : (words : List (List ℕ)) (rounds : ℕ) (g : Form) → AskFor words (Gen rounds) → AskFor words g → (letter_of g ≡ 103 → ⊥) → ⊥
no_gen words rounds g a b other = other (sym (one_letter words (Gen rounds) g a b))

-- words of `bulk` are those of no other form
pub no_bulk : (words : List (List ℕ)) (rounds : ℕ) (g : Form) → AskFor words (Bulk rounds) → AskFor words g → (letter_of g ≡ 98 → ⊥) → ⊥
no_bulk words rounds g a b other = other (sym (one_letter words (Bulk rounds) g a b))

bulk_text : (a b : ℕ) (left : Option (List ℕ)) → IsInRange (Bulk a) → IsInRange (Bulk b) → words_of (Bulk a) ≡ words_of (Bulk b) → judged_text (Bulk a) left ≡ judged_text (Bulk b) left
bulk_text a b left h k e =
    let same : decimal a ≡ decimal b = cc in
    ap (λ (n : ℕ). Some (generated n)) (decimal_injective a b (omega (arith, h.1)) (omega (arith, k.1)) same)

text_by : (f g : Form) (left : Option (List ℕ)) → letter_of f ≡ letter_of g → words_of f ≡ words_of g → IsInRange f → IsInRange g → judged_text f left ≡ judged_text g left
text_by (Replay a) (Replay b) left l e h k = refl
text_by (Replay a) (Plain b) left l e h k = refl
text_by (Replay a) Check left l e h k = refl
text_by (Replay a) (Gen b) left l e h k = absurd (omega (arith, l))
text_by (Replay a) (Bulk b) left l e h k = absurd (omega (arith, l))
text_by (Plain a) (Replay b) left l e h k = refl
text_by (Plain a) (Plain b) left l e h k = refl
text_by (Plain a) Check left l e h k = refl
text_by (Plain a) (Gen b) left l e h k = absurd (omega (arith, l))
text_by (Plain a) (Bulk b) left l e h k = absurd (omega (arith, l))
text_by Check (Replay b) left l e h k = refl
text_by Check (Plain b) left l e h k = refl
text_by Check Check left l e h k = refl
text_by Check (Gen b) left l e h k = absurd (omega (arith, l))
text_by Check (Bulk b) left l e h k = absurd (omega (arith, l))
text_by (Gen a) (Replay b) left l e h k = absurd (omega (arith, l))
text_by (Gen a) (Plain b) left l e h k = absurd (omega (arith, l))
text_by (Gen a) Check left l e h k = absurd (omega (arith, l))
text_by (Gen a) (Gen b) left l e h k = refl
text_by (Gen a) (Bulk b) left l e h k = absurd (omega (arith, l))
text_by (Bulk a) (Replay b) left l e h k = absurd (omega (arith, l))
text_by (Bulk a) (Plain b) left l e h k = absurd (omega (arith, l))
text_by (Bulk a) Check left l e h k = absurd (omega (arith, l))
text_by (Bulk a) (Gen b) left l e h k = absurd (omega (arith, l))
text_by (Bulk a) (Bulk b) left l e h k = bulk_text a b left h k e

pub same_text : (words : List (List ℕ)) (f g : Form) (left : Option (List ℕ)) → AskFor words f → AskFor words g → judged_text f left ≡ judged_text g left
same_text words f g left a b = text_by f g left (one_letter words f g a b) (sym a.1 ∙ b.1) a.0 b.0

-- words of a form that needs no other thread are no misuse, of one call or the other
pub usage_apart : (Misused : Type 0) (words : List (List ℕ)) (form : Form) → IsPlainForm form → AskFor words form → Misused ↔ AreNoPlainForm words → Misused ↔ AreNoForm words
usage_apart Misused words form is at (to, from) = (λ misused. absurd (to misused form is at), λ none. absurd (none form at))
