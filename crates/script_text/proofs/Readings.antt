-- Two readings of one text.
use Rattle.std.proofs.Common.{◌≡◌, ◌⊎◌, ℕ, ◌<◌, false, List, [], ◌∷◌, ◌++◌, length, refl, sym, ap, subst, ◌∙◌, append_assoc, arith, length-append, inl, inr}
use Rattle.std.specs.List.{AllByRecursion}
use Rattle.std.proofs.lemmas.List.{append-nil}
use Rattle.script_text.specs.declared.line.Line.{Line}
use Rattle.script_text.specs.declared.line.Line.TheVariants as lines
use Rattle.script_text.specs.declared.place.Place.{Place}
use Rattle.script_text.specs.declared.limits.Tally.{Tally}
use Rattle.script_text.specs.Lines.{IsLine, spelled}
use Rattle.script_text.specs.Parts.{lines_text}
use Rattle.script_text.specs.Order.{place_of, place_behind, follows, is_next, MayStand, InOrder}
use Rattle.script_text.specs.Faults.{IsNextPart, FailsAt, SyntaxAt}
use Rattle.script_text.specs.Laws.{AreLinesOf}
use Rattle.script_text.proofs.Lines.{same_first, line_then, bare}
use Rattle.script_text.proofs.NextLines.{true_false}

cons_same : (l o : Line) (xs ys : List Line) → l ≡ o → xs ≡ ys → l ∷ xs ≡ o ∷ ys
cons_same l o xs ys p q = rw (p, q) refl

-- The second lines go on where the first end, or the first go on where the second end.
abbrev Split : List Line → List Line → List ℕ → List ℕ → Type 0
Split xs ys rest other =
    ((l : Line) × (more : List Line) × (ys ≡ xs ++ l ∷ more) × (rest ≡ spelled l ++ (lines_text more ++ other)))
    ⊎ ((more : List Line) × (xs ≡ ys ++ more) × (other ≡ lines_text more ++ rest))

split_lines : (xs ys : List Line) (rest other : List ℕ) → AllByRecursion IsLine xs → AllByRecursion IsLine ys → lines_text xs ++ rest ≡ lines_text ys ++ other → Split xs ys rest other
split_lines [] [] rest other p q e = inr ([], refl, sym e)
split_lines [] (y ∷ ys) rest other p q e = inl (y, ys, refl, e ∙ append_assoc (spelled y) (lines_text ys) other)
split_lines (x ∷ xs) [] rest other p q e = inr (x ∷ xs, refl, sym e)
split_lines (x ∷ xs) (y ∷ ys) rest other p q e =
    let same = same_first x y (lines_text xs ++ rest) (lines_text ys ++ other) p.0 q.0 (sym (append_assoc (spelled x) (lines_text xs) rest) ∙ e ∙ append_assoc (spelled y) (lines_text ys) other) in
    elim (split_lines xs ys rest other p.1 q.1 same.1) [
      | inl (l, more, is, text) ↦ inl (l, more, cons_same y x ys (xs ++ l ∷ more) (sym same.0) is, text)
      | inr (more, is, text) ↦ inr (more, cons_same x y xs (ys ++ more) same.0 is, text)
    ]

not_next : (l : Line) → is_next (place_of l) ≡ false
not_next lines.Version = refl
not_next (lines.Map name n) = refl
not_next (lines.Priv app) = refl
not_next (lines.If iface name) = refl
not_next lines.Section = refl
not_next (lines.Cap bytes) = refl
not_next lines.Lane = refl
not_next (lines.Hook h) = refl
not_next lines.Desk = refl
not_next (lines.Command c) = refl

behind_not_next : (p : Place) (ls : List Line) → is_next p ≡ false → is_next (place_behind p ls) ≡ false
behind_not_next p [] e = e
behind_not_next p (l ∷ ls) e = behind_not_next (place_of l) ls (not_next l)

-- behind a first line stands no line `section`
inner_line : (p : Place) (ls : List Line) (l : Line) → 0 < length ls → MayStand p ls l → l ≡ lines.Section → ⊥
inner_line p [] l some may e = absurd (omega arith)
inner_line p (m ∷ ls) l some may e =
    true_false (sym may.follows_is ∙ ap (follows (place_behind (place_of m) ls)) e ∙ behind_not_next (place_of m) ls (not_next m))

order_at : (p : Place) (front xs : List Line) (l : Line) (more : List Line) → InOrder p front (xs ++ l ∷ more) → MayStand p (front ++ xs) l
order_at p front [] l more h = subst (λ (f : List Line). MayStand p f l) (sym (append-nil front)) h.0
order_at p front (x ∷ xs) l more h = subst (λ (f : List Line). MayStand p f l) (append_assoc front (x ∷ []) xs) (order_at p (front ++ x ∷ []) xs l more h.1)

fits_at : (xs : List Line) (l : Line) (more : List Line) → AllByRecursion IsLine (xs ++ l ∷ more) → IsLine l
fits_at [] l more h = h.0
fits_at (x ∷ xs) l more h = fits_at xs l more h.1

some_line : (l : Line) (more : List ℕ) → spelled l ++ more ≡ [] → ⊥
some_line l more e = absurd (let z = ap length (sym (line_then l more) ∙ e) in omega (arith, length-append (bare l) (10 ∷ more)))

-- where the next part begins, no line of this one does
part_ends : (l : Line) (more rest : List ℕ) → IsLine l → (l ≡ lines.Section → ⊥) → IsNextPart rest → rest ≡ spelled l ++ more → ⊥
part_ends l more rest fits other next e = elim next [
  | inl none ↦ some_line l more (sym e ∙ none)
  | inr (behind, begins) ↦ other (same_first l lines.Section more behind fits (tt, tt) (sym e ∙ begins)).0
]

-- lines that go on behind a part that has ended
no_more : (p : Place) (xs ys : List Line) (l : Line) (more : List Line) (rest tail : List ℕ) → 0 < length xs → AllByRecursion IsLine ys → InOrder p [] ys → ys ≡ xs ++ l ∷ more → IsNextPart rest → rest ≡ spelled l ++ tail → ⊥
no_more p xs ys l more rest tail some fits order is next text =
    part_ends l tail rest (fits_at xs l more (subst (AllByRecursion IsLine) is fits)) (inner_line p xs l some (order_at p [] xs l more (subst (InOrder p []) is order))) next text

pub part_same : (p : Place) (ls ms : List Line) (bytes rest other : List ℕ) → AreLinesOf p ls bytes rest → AreLinesOf p ms bytes other → (ls ≡ ms) × (rest ≡ other)
part_same p ls ms bytes rest other a b = elim (split_lines ls ms rest other a.fits b.fits (sym a.text ∙ b.text)) [
  | inl (l, more, is, text) ↦ absurd (no_more p ls ms l more rest (lines_text more ++ other) a.some b.fits b.order is a.next text)
  | inr ([], is, text) ↦ (is ∙ append-nil ms, sym text)
  | inr (l ∷ more, is, text) ↦ absurd (no_more p ms ls l more other (lines_text more ++ rest) b.some a.fits a.order is b.next (text ∙ append_assoc (spelled l) (lines_text more) rest))
]

pub syntax_decides : (p : Place) (t : Tally) (bytes other : List ℕ) (first line : ℕ) (ms : List Line) → FailsAt p t bytes first line SyntaxAt → AreLinesOf p ms bytes other → ⊥
syntax_decides p t bytes other first line ms f b = elim (split_lines f.front ms f.rest other f.fits b.fits (sym f.read ∙ b.text)) [
  | inl (l, more, is, text) ↦ f.fails.none l (lines_text more ++ other) (fits_at f.front l more (subst (AllByRecursion IsLine) is b.fits)) (order_at p [] f.front l more (subst (InOrder p []) is b.order)) text
  | inr ([], is, text) ↦ f.goes_on (subst (λ (n : ℕ). 0 < n) (ap length (sym (is ∙ append-nil ms))) b.some) (subst IsNextPart text b.next)
  | inr (l ∷ more, is, text) ↦ no_more p ms f.front l more other (lines_text more ++ f.rest) b.some f.fits f.order is b.next (text ∙ append_assoc (spelled l) (lines_text more) f.rest)
]
