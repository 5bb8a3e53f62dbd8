-- A script part by part.
use Rattle.std.proofs.Common.{◌≡◌, ◌⊎◌, ℕ, ◌+◌, ◌<◌, Bool, true, false, eqb, List, [], ◌∷◌, ◌++◌, length, refl, sym, ap, subst, ◌∙◌, append_assoc, arith, length-append, inl, inr}
use Rattle.std.specs.Prelude.{codes, Some, None, if◌then◌else◌, take, nat_lt}
use Rattle.std.specs.List.{flat_map}
use Rattle.std.proofs.lemmas.List.{append-nil}
use Rattle.std.proofs.lemmas.Bool.{eqb-true}
use Rattle.script_text.specs.declared.line.Line.{Line}
use Rattle.script_text.specs.declared.place.Place.{Place}
use Rattle.script_text.specs.declared.limits.Tally.{Tally}
use Rattle.script_text.specs.declared.limits.Counts.{Counts}
use Rattle.script_text.specs.declared.fault.Which.{Which}
use Rattle.script_text.specs.declared.fault.Which.TheVariants as which
use Rattle.script_text.specs.declared.header.Header.{Header}
use Rattle.script_text.specs.declared.section.Section.{Section}
use Rattle.script_text.specs.declared.cutter.Fed.{Fed}
use Rattle.script_text.specs.declared.cutter.Fed.TheVariants as fed
use Rattle.script_text.specs.Lines.{IsLine, spelled}
use Rattle.script_text.specs.Order.{place_behind, names_in}
use Rattle.script_text.specs.Parts.{lines_text, header_lines, header_text, section_lines, section_text}
use Rattle.script_text.specs.Limits.{counts_after, first_line, before_feed, passed_by_bytes, most_bytes, tallied}
use Rattle.script_text.specs.Faults.{IsNextPart, IsPart, FailsAt, SyntaxAt, LimitAt}
use Rattle.script_text.specs.Script.{IsScript, IsNextSection, AreSections, counts_behind, script_text, script_counts}
use Rattle.script_text.specs.Cuts.{EndsLine, IsUncut, ArePartsOf, Feeds}
use Rattle.script_text.specs.Laws.{FedOn, Follows}
use Rattle.script_text.proofs.Lines.{NoFeed, bare, line_then, bare_no_feed, cut_same, first_line_cut, before_feed_cut}
use Rattle.script_text.proofs.CutLines.{parts_more, parts_cut, no_bytes, word_lacks, cut_between}

-- ---- the cutter

pub fed_on : (parts : List (List ℕ)) (old piece text new : List ℕ) (fed : Fed) → ArePartsOf parts old text → Feeds old piece fed new → FedOn parts text piece fed new
fed_on parts old piece text new fed.More h f =
    subst (λ (b : List ℕ). ArePartsOf parts b (text ++ piece)) (sym f.0) (parts_more parts old piece text h (subst IsUncut f.0 f.1))
fed_on parts old piece text new (fed.Part taken part) h f =
    subst (λ (b : List ℕ). ArePartsOf (parts ++ part ∷ []) b (text ++ take taken piece)) (sym f.1.1) (parts_cut parts part old (take taken piece) text h f.1.0.ends f.1.0.uncut f.1.0.is)

-- ---- a section more

sections_push : (before : Counts) (ss : List Section) (s : Section) → AreSections before ss → IsNextSection (counts_behind before ss) s → AreSections before (ss ++ s ∷ [])
sections_push before [] s h next = (next, tt)
sections_push before (r ∷ ss) s h next = (h.0, sections_push (counts_after before r) ss s h.1 next)

counts_push : (before : Counts) (ss : List Section) (s : Section) → counts_behind before (ss ++ s ∷ []) ≡ counts_after (counts_behind before ss) s
counts_push before [] s = refl
counts_push before (r ∷ ss) s = counts_push (counts_after before r) ss s

texts_push : (ss : List Section) (s : Section) → flat_map section_text (ss ++ s ∷ []) ≡ flat_map section_text ss ++ section_text s
texts_push [] s = append-nil (section_text s)
texts_push (r ∷ ss) s = ap (λ (t : List ℕ). section_text r ++ t) (texts_push ss s) ∙ sym (append_assoc (section_text r) (flat_map section_text ss) (section_text s))

pub script_grows : (h : Header) (ss : List Section) (s : Section) → IsScript h ss → IsNextSection (script_counts h ss) s
    → IsScript h (ss ++ s ∷ []) × ((script_text h (ss ++ s ∷ []) ≡ script_text h ss ++ section_text s) × (script_counts h (ss ++ s ∷ []) ≡ counts_after (script_counts h ss) s))
script_grows h ss s is next = (
  record { header_is = is.header_is; sections_are = sections_push _ ss s is.sections_are next },
  (ap (λ (t : List ℕ). header_text h ++ t) (texts_push ss s) ∙ sym (append_assoc (header_text h) (flat_map section_text ss) (section_text s)), counts_push _ ss s),
)

-- ---- a part is read whole

lines_end : (l : Line) (ls : List Line) → EndsLine (lines_text (l ∷ ls))
lines_end l [] = (bare l, append-nil (spelled l) ∙ sym (append-nil (spelled l)) ∙ line_then l [])
lines_end l (m ∷ ls) =
    let rest = lines_end m ls in
    (spelled l ++ rest.0, ap (λ (t : List ℕ). spelled l ++ t) rest.1 ∙ sym (append_assoc (spelled l) rest.0 (10 ∷ [])))

whole_part : (text part : List ℕ) → EndsLine text → IsUncut part → IsPart text part → part ≡ text
whole_part text part ends uncut (rest, is, next) = elim next [
  | inl none ↦ is ∙ ap (λ (t : List ℕ). text ++ t) none ∙ append-nil text
  | inr begins ↦ absurd (uncut (let cut = cut_between text rest ends begins in (cut.0, cut.1, is ∙ cut.2)))
]

pub header_whole : (h : Header) (part : List ℕ) → IsUncut part → IsPart (header_text h) part → part ≡ header_text h
header_whole h part uncut is = whole_part (header_text h) part (header_ends (header_lines h) h refl) uncut is
  where
    header_ends : (ls : List Line) (h : Header) → ls ≡ header_lines h → EndsLine (header_text h)
    header_ends [] h e = absurd (let z = ap length e in omega arith)
    header_ends (l ∷ ls) h e = subst (λ (ms : List Line). EndsLine (lines_text ms)) e (lines_end l ls)

pub section_whole : (s : Section) (part : List ℕ) → IsUncut part → IsPart (section_text s) part → part ≡ section_text s
section_whole s part uncut is = whole_part (section_text s) part (section_ends (section_lines s) s refl) uncut is
  where
    section_ends : (ls : List Line) (s : Section) → ls ≡ section_lines s → EndsLine (section_text s)
    section_ends [] s e = absurd (let z = ap length e in omega arith)
    section_ends (l ∷ ls) s e = subst (λ (ms : List Line). EndsLine (lines_text ms)) e (lines_end l ls)

-- ---- a fault goes on

-- the text has a first line that ends
abbrev HasLine : List ℕ → Type 0
HasLine rest = (a : List ℕ) × (b : List ℕ) × NoFeed a × (rest ≡ a ++ 10 ∷ b)

find_line : (rest : List ℕ) → NoFeed rest ⊎ HasLine rest
find_line [] = inl tt
find_line (x ∷ rest) = at (eqb x 10) refl (find_line rest)
  where
    at : (b : Bool) → eqb x 10 ≡ b → NoFeed rest ⊎ HasLine rest → NoFeed (x ∷ rest) ⊎ HasLine (x ∷ rest)
    at true e found = inr ([], rest, tt, ap (λ (c : ℕ). c ∷ rest) (eqb-true x 10 e))
    at false e found = elim found [
      | inl clean ↦ inl (e, clean)
      | inr (a, b, clean, is) ↦ inr (x ∷ a, b, (e, clean), ap (λ (t : List ℕ). x ∷ t) is)
    ]

bytes_on : (t : Tally) (rest more : List ℕ) → HasLine rest → passed_by_bytes t (rest ++ more) ≡ passed_by_bytes t rest
bytes_on t rest more (a, b, clean, is) =
    let longer : rest ++ more ≡ a ++ 10 ∷ (b ++ more) = ap (λ (s : List ℕ). s ++ more) is ∙ append_assoc a (10 ∷ b) more in
    let line : first_line (rest ++ more) ≡ first_line rest = ap first_line longer ∙ first_line_cut a (b ++ more) clean ∙ sym (first_line_cut a b clean) ∙ ap first_line (sym is) in
    let text : before_feed (rest ++ more) ≡ before_feed rest = ap before_feed longer ∙ before_feed_cut a (b ++ more) clean ∙ sym (before_feed_cut a b clean) ∙ ap before_feed (sym is) in
    λ i. if nat_lt most_bytes (t.bytes + length (line i)) then Some which.ScriptBytes else if nat_lt 65536 (length (text i)) then Some which.LineBytes else None

line_on : (l : Line) (rest more x : List ℕ) → IsLine l → HasLine rest → rest ++ more ≡ spelled l ++ x → (y : List ℕ) × (rest ≡ spelled l ++ y)
line_on l rest more x fits (a, b, clean, is) e =
    let same = cut_same a (bare l) (b ++ more) x clean (bare_no_feed l fits) (sym (ap (λ (s : List ℕ). s ++ more) is ∙ append_assoc a (10 ∷ b) more) ∙ e ∙ line_then l x) in
    (b, is ∙ ap (λ (s : List ℕ). s ++ 10 ∷ b) same.0 ∙ sym (line_then l b))

syntax_on : (p : Place) (names : List (List ℕ)) (t : Tally) (rest more : List ℕ) → HasLine rest → SyntaxAt p names t rest → SyntaxAt p names t (rest ++ more)
syntax_on p names t rest more line h = record {
  bytes_fit = bytes_on t rest more line ∙ h.bytes_fit;
  none = λ l x fits stands e. let r = line_on l rest more x fits line e in h.none l r.0 fits stands r.1;
}

limit_on : (w : Which) (p : Place) (names : List (List ℕ)) (t : Tally) (rest more : List ℕ) → HasLine rest → LimitAt w p names t rest → LimitAt w p names t (rest ++ more)
limit_on w p names t rest more line (inl e) = inl (bytes_on t rest more line ∙ e)
limit_on w p names t rest more line (inr (l, x, next, e)) =
    inr (l, x ++ more, record { bytes_fit = bytes_on t rest more line ∙ next.bytes_fit; fits = next.fits; stands = next.stands; text = ap (λ (s : List ℕ). s ++ more) next.text ∙ append_assoc (spelled l) x more }, e)

-- what is left where a part fails
abbrev Tells : (Place → List (List ℕ) → Tally → List ℕ → Type 0) → Type 0
Tells Fails = (p : Place) (names : List (List ℕ)) (t : Tally) (rest more : List ℕ) → HasLine rest → Fails p names t rest → Fails p names t (rest ++ more)

-- the rest of a part that ends a line, where it fails, has a line
rest_has_line : (from : Place) (t : Tally) (part : List ℕ) (first line : ℕ) (Fails : Place → List (List ℕ) → Tally → List ℕ → Type 0) → EndsLine part → (f : FailsAt from t part first line Fails) → HasLine f.rest
rest_has_line from t part first line Fails ends f = elim (find_line f.rest) [
  | inl clean ↦ absurd (nothing_left (no_bytes part (lines_text f.front) f.rest f.read ends clean))
  | inr line ↦ line
]
  where
    nothing_left : f.rest ≡ [] → ⊥
    nothing_left none = by_front f.front refl
      where
        by_front : (ls : List Line) → ls ≡ f.front → ⊥
        by_front [] e = absurd (let z = ap length (sym ends.1 ∙ f.read ∙ ap (λ (ms : List Line). lines_text ms ++ f.rest) (sym e) ∙ none) in omega (arith, length-append ends.0 (10 ∷ [])))
        by_front (l ∷ ls) e = f.goes_on (omega (arith, ap length e)) (inl none)

-- where a part goes on it goes on in the longer text
goes_on : (rest more : List ℕ) → HasLine rest → (IsNextPart rest → ⊥) → IsNextPart (rest ++ more) → ⊥
goes_on rest more line on (inl none) = absurd (let z = ap length none in omega (arith, length-append rest more, some_bytes rest line))
  where
    some_bytes : (rest : List ℕ) → HasLine rest → 0 < length rest
    some_bytes rest (a, b, clean, is) = omega (arith, ap length is, length-append a (10 ∷ b))
goes_on rest more (a, b, clean, is) on (inr (m, begins)) =
    let same = cut_same a (codes "section") (b ++ more) m clean word_lacks (sym (ap (λ (s : List ℕ). s ++ more) is ∙ append_assoc a (10 ∷ b) more) ∙ begins) in
    on (inr (b, is ∙ ap (λ (s : List ℕ). s ++ 10 ∷ b) same.0))

fails_on : (from : Place) (t : Tally) (part more : List ℕ) (first line : ℕ) (Fails : Place → List (List ℕ) → Tally → List ℕ → Type 0) → Tells Fails → Follows part more → FailsAt from t part first line Fails → FailsAt from t (part ++ more) first line Fails
fails_on from t part more first line Fails tells (inl none) f = subst (λ (b : List ℕ). FailsAt from t b first line Fails) (sym (ap (λ (s : List ℕ). part ++ s) none ∙ append-nil part)) f
fails_on from t part more first line Fails tells (inr (ends, begins)) f =
    let has = rest_has_line from t part first line Fails ends f in
    record {
      front = f.front;
      rest = f.rest ++ more;
      fits = f.fits;
      order = f.order;
      limits = f.limits;
      read = ap (λ (s : List ℕ). s ++ more) f.read ∙ append_assoc (lines_text f.front) f.rest more;
      goes_on = λ some next. goes_on f.rest more has (f.goes_on some) next;
      number = f.number;
      fails = tells (place_behind from f.front) (names_in f.front) (tallied t f.front) f.rest more has f.fails;
    }

pub syntax_goes_on : (from : Place) (t : Tally) (part more : List ℕ) (first line : ℕ) → Follows part more → FailsAt from t part first line SyntaxAt → FailsAt from t (part ++ more) first line SyntaxAt
syntax_goes_on from t part more first line follows f = fails_on from t part more first line SyntaxAt syntax_on follows f

pub limit_goes_on : (w : Which) (from : Place) (t : Tally) (part more : List ℕ) (first line : ℕ) → Follows part more → FailsAt from t part first line (LimitAt w) → FailsAt from t (part ++ more) first line (LimitAt w)
limit_goes_on w from t part more first line follows f = fails_on from t part more first line (LimitAt w) (limit_on w) follows f
