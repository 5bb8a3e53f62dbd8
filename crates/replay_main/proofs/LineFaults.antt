-- A part of a text where a line fails.
use Rattle.std.proofs.Common.{◌≡◌, ◌⊎◌, ℕ, ◌+◌, ◌<◌, List, [], ◌∷◌, ◌++◌, length, refl, sym, ap, subst, ◌∙◌, append_assoc, arith, length-append, inl, inr, Some, None}
use Rattle.std.specs.List.{AllByRecursion}
use Rattle.std.proofs.lemmas.List.{append-nil}
use Rattle.std.proofs.lemmas.Grind.{flat_map-append}
use Rattle.script_text.specs.declared.line.Line.{Line}
use Rattle.script_text.specs.declared.line.Line.TheVariants as lines
use Rattle.script_text.specs.declared.place.Place.{Place}
use Rattle.script_text.specs.declared.limits.Tally.{Tally}
use Rattle.script_text.specs.declared.fault.Which.{Which}
use Rattle.script_text.specs.Lines.{IsLine, spelled}
use Rattle.script_text.specs.Parts.{lines_text}
use Rattle.script_text.specs.Limits.{passed_by_bytes, added, tallied, passed, KeepLimits}
use Rattle.script_text.specs.Order.{place_behind, names_in, Stands, MayStand, InOrder}
use Rattle.script_text.specs.Faults.{IsNextPart, FailsAt, SyntaxAt, LimitAt}
use Rattle.script_text.specs.Laws.{AreLinesOf}
use Rattle.script_text.proofs.Lines.{same_first, line_then, bare, bytes_same}
use Rattle.script_text.proofs.Readings.{part_same}
use Rattle.replay_main.specs.declared.fault.Fault.{Fault}
use Rattle.replay_main.specs.declared.fault.Fault.TheVariants as fault

-- ---- two lists of lines

cons_same : (l o : Line) (xs ys : List Line) → l ≡ o → xs ≡ ys → l ∷ xs ≡ o ∷ ys
cons_same l o xs ys p q = rw (p, q) refl

-- the other lines go on where these end, with a line that the rest begins with
abbrev GoesPast : List Line → List Line → List ℕ → Type 0
GoesPast xs ys rest = (l : Line) × (more : List Line) × (tail : List ℕ) × (ys ≡ xs ++ l ∷ more) × (rest ≡ spelled l ++ tail)

abbrev Split : List Line → List Line → List ℕ → List ℕ → Type 0
Split xs ys rest other = GoesPast xs ys rest ⊎ (GoesPast ys xs other ⊎ ((xs ≡ ys) × (rest ≡ other)))

split_lines : (xs ys : List Line) (rest other : List ℕ) → AllByRecursion IsLine xs → AllByRecursion IsLine ys → lines_text xs ++ rest ≡ lines_text ys ++ other → Split xs ys rest other
split_lines [] [] rest other p q e = inr (inr (refl, e))
split_lines [] (y ∷ ys) rest other p q e = inl (y, ys, lines_text ys ++ other, refl, e ∙ append_assoc (spelled y) (lines_text ys) other)
split_lines (x ∷ xs) [] rest other p q e = inr (inl (x, xs, lines_text xs ++ rest, refl, sym e ∙ append_assoc (spelled x) (lines_text xs) rest))
split_lines (x ∷ xs) (y ∷ ys) rest other p q e =
    let same = same_first x y (lines_text xs ++ rest) (lines_text ys ++ other) p.0 q.0 (sym (append_assoc (spelled x) (lines_text xs) rest) ∙ e ∙ append_assoc (spelled y) (lines_text ys) other) in
    elim (split_lines xs ys rest other p.1 q.1 same.1) [
      | inl (l, more, tail, is, text) ↦ inl (l, more, tail, cons_same y x ys (xs ++ l ∷ more) (sym same.0) is, text)
      | inr (inl (l, more, tail, is, text)) ↦ inr (inl (l, more, tail, cons_same x y xs (ys ++ l ∷ more) same.0 is, text))
      | inr (inr (is, text)) ↦ inr (inr (cons_same x y xs ys same.0 is, text))
    ]

order_at : (p : Place) (front xs : List Line) (l : Line) (more : List Line) → InOrder p front (xs ++ l ∷ more) → MayStand p (front ++ xs) l
order_at p front [] l more h = subst (λ (f : List Line). MayStand p f l) (sym (append-nil front)) h.0
order_at p front (x ∷ xs) l more h = subst (λ (f : List Line). MayStand p f l) (append_assoc front (x ∷ []) xs) (order_at p (front ++ x ∷ []) xs l more h.1)

fits_at : (xs : List Line) (l : Line) (more : List Line) → AllByRecursion IsLine (xs ++ l ∷ more) → IsLine l
fits_at [] l more h = h.0
fits_at (x ∷ xs) l more h = fits_at xs l more h.1

limits_at : (t : Tally) (xs : List Line) (l : Line) (more : List Line) → KeepLimits t (xs ++ l ∷ more) → (passed_by_bytes (tallied t xs) (spelled l) ≡ None) × (passed (added (tallied t xs) l) l ≡ None)
limits_at t [] l more h = (h.0, h.1.0)
limits_at t (x ∷ xs) l more h = limits_at (added t x) xs l more h.1.1

some_line : (l : Line) (more : List ℕ) → spelled l ++ more ≡ [] → ⊥
some_line l more e = absurd (let z = ap length (sym (line_then l more) ∙ e) in omega (arith, length-append (bare l) (10 ∷ more)))

-- no lines of a part go on where a part has ended
past_end : (p : Place) (xs ys : List Line) (other : List ℕ) → 0 < length ys → AllByRecursion IsLine xs → InOrder p [] xs → AllByRecursion IsLine ys → InOrder p [] ys → IsNextPart other → GoesPast ys xs other → ⊥
past_end p xs ys other some fits order fine ordered next (l, more, tail, is, text) =
    let here : IsLine l = fits_at ys l more (subst (AllByRecursion IsLine) is fits) in
    elim next [
      | inl none ↦ some_line l tail (sym text ∙ none)
      | inr (behind, begins) ↦ by_section (same_first l lines.Section tail behind here (tt, tt) (sym text ∙ begins)).0
    ]
  where
    longer : xs ≡ ys → ⊥
    longer e = absurd (let z = ap length (sym e ∙ is) in omega (arith, length-append ys (l ∷ more)))

    by_section : l ≡ lines.Section → ⊥
    by_section e =
        let read : lines_text xs ≡ lines_text ys ++ lines_text (l ∷ more) = ap lines_text is ∙ flat_map-append spelled ys (l ∷ more) in
        longer (part_same p xs ys (lines_text xs) [] (lines_text (l ∷ more))
        (record { some = omega (arith, ap length is, length-append ys (l ∷ more)); fits = fits; order = order; text = sym (append-nil (lines_text xs)); next = inl refl })
        (record { some = some; fits = fine; order = ordered; text = read; next = inr (lines_text more, ap (λ (m : Line). spelled m ++ lines_text more) e) })).0

-- ---- a line that fails

abbrev pub Failing : Type 1
Failing = Place → List (List ℕ) → Tally → List ℕ → Type 0

-- no line that may stand there, and passes no limit, is next
abbrev Stops : Failing → Type 0
Stops Fails = (p : Place) (names : List (List ℕ)) (t : Tally) (rest : List ℕ) (l : Line) (tail : List ℕ) → IsLine l → Stands p names l → passed_by_bytes t (spelled l) ≡ None → passed (added t l) l ≡ None → rest ≡ spelled l ++ tail → Fails p names t rest → ⊥

syntax_stops : Stops SyntaxAt
syntax_stops p names t rest l tail fits stands bytes kept e h = h.none l tail fits stands e

limit_stops : (w : Which) → Stops (LimitAt w)
limit_stops w p names t rest l tail fits stands bytes kept e (inl over) =
    absurd (let z : None ≡ Some w = sym bytes ∙ sym (bytes_same t l tail fits) ∙ ap (passed_by_bytes t) (sym e) ∙ over in cc)
limit_stops w p names t rest l tail fits stands bytes kept e (inr (m, more, next, over)) =
    let same : m ≡ l = (same_first m l more tail next.fits fits (sym next.text ∙ e)).0 in
    absurd (let z : None ≡ Some w = sym kept ∙ ap (λ (k : Line). passed (added t k) k) (sym same) ∙ over in cc)

-- the lines before the one that fails are not the first of longer ones that may stand so and pass no limit
none_longer : (Fails : Failing) → Stops Fails → (p : Place) (t : Tally) (bytes : List ℕ) (first line : ℕ) (ms : List Line) → (f : FailsAt p t bytes first line Fails) → AllByRecursion IsLine ms → InOrder p [] ms → KeepLimits t ms → GoesPast f.front ms f.rest → ⊥
none_longer Fails stops p t bytes first line ms f fits order limits (l, more, tail, is, text) =
    let kept = limits_at t f.front l more (subst (KeepLimits t) is limits) in
    stops (place_behind p f.front) (names_in f.front) (tallied t f.front) f.rest l tail
    (fits_at f.front l more (subst (AllByRecursion IsLine) is fits)) (order_at p [] f.front l more (subst (InOrder p []) is order)) kept.0 kept.1 text f.fails

-- where a line fails, no part stands that passes no limit
no_part : (Fails : Failing) → Stops Fails → (p : Place) (t : Tally) (bytes other : List ℕ) (first line : ℕ) (ms : List Line) → FailsAt p t bytes first line Fails → AreLinesOf p ms bytes other → KeepLimits t ms → ⊥
no_part Fails stops p t bytes other first line ms f b limits = elim (split_lines f.front ms f.rest other f.fits b.fits (sym f.read ∙ b.text)) [
  | inl past ↦ none_longer Fails stops p t bytes first line ms f b.fits b.order limits past
  | inr (inl past) ↦ past_end p f.front ms other b.some f.fits f.order b.fits b.order b.next past
  | inr (inr (is, text)) ↦ f.goes_on (subst (λ (n : ℕ). 0 < n) (ap length (sym is)) b.some) (subst IsNextPart (sym text) b.next)
]

-- two lines that fail are one, and fail at one place
abbrev FailBoth : Failing → Failing → ℕ → ℕ → Type 0
FailBoth F G line other = (line ≡ other) × ((p : Place) × (names : List (List ℕ)) × (t : Tally) × (rest : List ℕ) × F p names t rest × G p names t rest)

fail_once : (F G : Failing) → Stops F → Stops G → (p : Place) (t : Tally) (bytes : List ℕ) (first line other : ℕ) → FailsAt p t bytes first line F → FailsAt p t bytes first other G → FailBoth F G line other
fail_once F G stops ends p t bytes first line other f g = elim (split_lines f.front g.front f.rest g.rest f.fits g.fits (sym f.read ∙ g.read)) [
  | inl past ↦ absurd (none_longer F stops p t bytes first line g.front f g.fits g.order g.limits past)
  | inr (inl past) ↦ absurd (none_longer G ends p t bytes first other f.front g f.fits f.order f.limits past)
  | inr (inr (is, text)) ↦ (
    f.number ∙ ap (λ (ls : List Line). first + length ls) is ∙ sym g.number,
    (
      place_behind p f.front,
      names_in f.front,
      tallied t f.front,
      f.rest,
      f.fails,
      subst (λ (ls : List Line). G (place_behind p ls) (names_in ls) (tallied t ls) f.rest) (sym is)
          (subst (λ (r : List ℕ). G (place_behind p g.front) (names_in g.front) (tallied t g.front) r) (sym text) g.fails),
    ),
  )
]

not_both : (w : Which) (p : Place) (names : List (List ℕ)) (t : Tally) (rest : List ℕ) → SyntaxAt p names t rest → LimitAt w p names t rest → ⊥
not_both w p names t rest s (inl over) = absurd (let z : None ≡ Some w = sym s.bytes_fit ∙ over in cc)
not_both w p names t rest s (inr (l, more, next, over)) = s.none l more next.fits next.stands next.text

one_limit : (w v : Which) (p : Place) (names : List (List ℕ)) (t : Tally) (rest : List ℕ) → LimitAt w p names t rest → LimitAt v p names t rest → w ≡ v
one_limit w v p names t rest (inl over) (inl past) = let z : Some w ≡ Some v = sym over ∙ past in cc
one_limit w v p names t rest (inl over) (inr (l, more, next, past)) = absurd (let z : None ≡ Some w = sym next.bytes_fit ∙ over in cc)
one_limit w v p names t rest (inr (l, more, next, over)) (inl past) = absurd (let z : None ≡ Some v = sym next.bytes_fit ∙ past in cc)
one_limit w v p names t rest (inr (l, more, next, over)) (inr (m, tail, there, past)) =
    let same : l ≡ m = (same_first l m more tail next.fits there.fits (sym next.text ∙ there.text)).0 in
    let z : Some w ≡ Some v = sym over ∙ ap (λ (k : Line). passed (added t k) k) same ∙ past in
    cc

-- ---- the fault of a part

-- a line of the part fails by this fault
abbrev pub PartFails : Place → Tally → List ℕ → ℕ → Fault → Type 0
PartFails p t bytes first (fault.Syntax line) = FailsAt p t bytes first line SyntaxAt
PartFails p t bytes first (fault.Limit w line) = FailsAt p t bytes first line (LimitAt w)
PartFails p t bytes first _ = ⊥

pub part_or_fault : (p : Place) (t : Tally) (bytes other : List ℕ) (first : ℕ) (ms : List Line) (f : Fault) → PartFails p t bytes first f → AreLinesOf p ms bytes other → KeepLimits t ms → ⊥
part_or_fault p t bytes other first ms (fault.Syntax line) h are limits = no_part SyntaxAt syntax_stops p t bytes other first line ms h are limits
part_or_fault p t bytes other first ms (fault.Limit w line) h are limits = no_part (LimitAt w) (limit_stops w) p t bytes other first line ms h are limits
part_or_fault p t bytes other first ms _ h are limits = h

limits_same : (w v : Which) (line other : ℕ) → w ≡ v → line ≡ other → fault.Limit w line ≡ fault.Limit v other
limits_same w v line other e f = rw (e, f) refl

pub part_fault_once : (p : Place) (t : Tally) (bytes : List ℕ) (first : ℕ) (f g : Fault) → PartFails p t bytes first f → PartFails p t bytes first g → f ≡ g
part_fault_once p t bytes first (fault.Syntax line) (fault.Syntax other) a b = ap (λ (n : ℕ). fault.Syntax n) (fail_once SyntaxAt SyntaxAt syntax_stops syntax_stops p t bytes first line other a b).0
part_fault_once p t bytes first (fault.Syntax line) (fault.Limit w other) a b =
    let both = (fail_once SyntaxAt (LimitAt w) syntax_stops (limit_stops w) p t bytes first line other a b).1 in
    absurd (not_both w both.0 both.1 both.2 both.3 both.4 both.5)
part_fault_once p t bytes first (fault.Limit w line) (fault.Syntax other) a b =
    let both = (fail_once SyntaxAt (LimitAt w) syntax_stops (limit_stops w) p t bytes first other line b a).1 in
    absurd (not_both w both.0 both.1 both.2 both.3 both.4 both.5)
part_fault_once p t bytes first (fault.Limit w line) (fault.Limit v other) a b =
    let found = fail_once (LimitAt w) (LimitAt v) (limit_stops w) (limit_stops v) p t bytes first line other a b in
    let both = found.1 in
    limits_same w v line other (one_limit w v both.0 both.1 both.2 both.3 both.4 both.5) found.0
part_fault_once p t bytes first fault.Usage g a b = absurd a
part_fault_once p t bytes first fault.ReadFault g a b = absurd a
part_fault_once p t bytes first fault.WriteFault g a b = absurd a
part_fault_once p t bytes first (fault.CaptureBad line place) g a b = absurd a
part_fault_once p t bytes first (fault.NoPacket line) g a b = absurd a
part_fault_once p t bytes first fault.Memory g a b = absurd a
part_fault_once p t bytes first (fault.Syntax line) _ a b = absurd b
part_fault_once p t bytes first (fault.Limit w line) _ a b = absurd b
