-- Where a text is cut.
use Rattle.std.proofs.Common.{◌≡◌, ◌⊎◌, ℕ, ◌+◌, ◌<◌, ◌≤◌, ◌==◌, All, false, eqb, List, [], ◌∷◌, ◌++◌, length, take, drop, ◌-◌, refl, sym, ap, subst, ◌∙◌, append_assoc, arith, length-append, take-add, inl, inr}
use Rattle.std.specs.Prelude.{codes}
use Rattle.std.proofs.Math.Seq.{take-append_seam, drop-append_seam, take-length}
use Rattle.std.specs.List.{AllByRecursion}
use Rattle.std.proofs.lemmas.List.Elements.{recursion_from_All}
use Rattle.script_text.specs.Pieces.{Lacks}
use Rattle.std.proofs.lemmas.List.{append-nil, length-take-le, length-drop, take-append-drop}
use Rattle.script_text.specs.Faults.{BeginsSection}
use Rattle.script_text.specs.Cuts.{EndsLine, HasCut, IsUncut, ArePartsOf, IsOpen, IsHeld, CutsAt}
use Rattle.script_text.proofs.Lines.{NoFeed, no_feed_within, no_feed_then}

abbrev word : List ℕ
word = codes "section"

pub word_lacks : NoFeed word
word_lacks = (refl, (refl, (refl, (refl, (refl, (refl, (refl, tt)))))))

cons_same : (x y : ℕ) (xs ys : List ℕ) → x ≡ y → xs ≡ ys → x ∷ xs ≡ y ∷ ys
cons_same x y xs ys p q = rw (p, q) refl

-- a line feed before bytes that have none
last_feed : (a u b v : List ℕ) → NoFeed v → a ++ 10 ∷ u ≡ b ++ v → (c : List ℕ) × (b ≡ a ++ 10 ∷ c) × (u ≡ c ++ v)
last_feed a u [] v lacks e = absurd (no_feed_within a u (subst NoFeed (sym e) lacks))
last_feed [] u (x ∷ b) v lacks e = (b, cons_same x 10 b b (cc) refl, cc)
last_feed (y ∷ a) u (x ∷ b) v lacks e =
    let r = last_feed a u b v lacks (cc) in
    (r.0, cons_same x y b (a ++ 10 ∷ r.0) (cc) r.1, r.2)

-- a line feed in a text that ends with one is its last byte or stands before it
snoc_split : (p m t : List ℕ) → p ++ 10 ∷ m ≡ t ++ 10 ∷ [] → ((m ≡ []) × (p ≡ t)) ⊎ ((n : List ℕ) × (m ≡ n ++ 10 ∷ []) × (t ≡ p ++ 10 ∷ n))
snoc_split [] m [] e = inl (cc, refl)
snoc_split [] m (x ∷ t) e = inr (t, cc, cons_same x 10 t t (cc) refl)
snoc_split (y ∷ p) m [] e = absurd (let z = ap length e in omega (arith, length-append p (10 ∷ m)))
snoc_split (y ∷ p) m (x ∷ t) e = elim (snoc_split p m t (cc)) [
  | inl (none, is) ↦ inl (none, cons_same y x p t (cc) is)
  | inr (n, ends, is) ↦ inr (n, ends, cons_same x y t (p ++ 10 ∷ n) (cc) is)
]

front_lacks : (a b : List ℕ) → NoFeed (a ++ b) → NoFeed a
front_lacks [] b h = tt
front_lacks (x ∷ a) b h = (h.0, front_lacks a b h.1)

-- bytes without a line feed at the end of a text that ends with one
pub no_bytes : (front p d : List ℕ) → front ≡ p ++ d → EndsLine front → NoFeed d → d ≡ []
no_bytes front p d is ends lacks =
    let r = last_feed ends.0 [] p d lacks (sym ends.1 ∙ is) in
    none r.0 d (sym r.2)
  where
    none : (c d : List ℕ) → c ++ d ≡ [] → d ≡ []
    none [] d e = e
    none (x ∷ c) d e = absurd (let z = ap length e in omega arith)

cut_more : (a b : List ℕ) → HasCut a → HasCut (a ++ b)
cut_more a b (f, m, e) = (f, m ++ b, ap (λ (t : List ℕ). t ++ b) e ∙ append_assoc f (10 ∷ (codes "section\n" ++ m)) b)

-- bytes without a line feed make no cut
uncut_open : (front w : List ℕ) → NoFeed w → IsUncut front → IsUncut (front ++ w)
uncut_open front w lacks uncut (f, m, e) =
    let r = last_feed (f ++ 10 ∷ word) m front w lacks (append_assoc f (10 ∷ word) (10 ∷ m) ∙ sym e) in
    uncut (f, r.0, r.1 ∙ append_assoc f (10 ∷ word) (10 ∷ r.0))

-- a line makes a cut only where it is the line `section` behind others
line_cuts : (front w : List ℕ) → NoFeed w → (front ≡ []) ⊎ EndsLine front → IsUncut front → HasCut (front ++ (w ++ 10 ∷ [])) → (0 < length front) × (w ≡ word)
line_cuts front w lacks lines uncut (f, m, e) =
    let text : (f ++ 10 ∷ word) ++ 10 ∷ m ≡ (front ++ w) ++ 10 ∷ [] = append_assoc f (10 ∷ word) (10 ∷ m) ∙ sym e ∙ sym (append_assoc front w (10 ∷ [])) in
    elim (snoc_split (f ++ 10 ∷ word) m (front ++ w) text) [
      | inl (none, is) ↦ last_line (last_feed f word front w lacks is)
      | inr (n, ends, is) ↦ absurd (let r = last_feed (f ++ 10 ∷ word) n front w lacks (sym is) in uncut (f, r.0, r.1 ∙ append_assoc f (10 ∷ word) (10 ∷ r.0)))
    ]
  where
    last_line : ((c : List ℕ) × (front ≡ f ++ 10 ∷ c) × (word ≡ c ++ w)) → (0 < length front) × (w ≡ word)
    last_line (c, at, is) =
        let some : 0 < length front = omega (arith, ap length at, length-append f (10 ∷ c)) in
        let clean : NoFeed c = front_lacks c w (subst NoFeed is word_lacks) in
        let ends : EndsLine front = elim lines [ inl empty ↦ absurd (omega (arith, some, ap length empty)) | inr ends ↦ ends ] in
        let bare : c ≡ [] = no_bytes front (f ++ 10 ∷ []) c (at ∙ sym (append_assoc f (10 ∷ []) c)) ends clean in
        (some, sym (is ∙ ap (λ (t : List ℕ). t ++ w) bare))

-- ---- lines as they come in

front_uncut : (bytes : List ℕ) (line : ℕ) (last : List ℕ) (h : IsOpen bytes line last) → IsUncut h.front
front_uncut bytes line last h cut = h.uncut (subst HasCut (sym h.whole) (cut_more h.front last cut))

-- the line goes on
pub open_more : (bytes : List ℕ) (line : ℕ) (last more : List ℕ) → IsOpen bytes line last → NoFeed more → IsOpen (bytes ++ more) line (last ++ more)
open_more bytes line last more h lacks =
    let whole : bytes ++ more ≡ h.front ++ (last ++ more) = ap (λ (t : List ℕ). t ++ more) h.whole ∙ append_assoc h.front last more in
    let clean = no_feed_then last more h.lacks lacks in
    record {
      front = h.front;
      whole = whole;
      begins = h.begins;
      lacks = clean;
      lines = h.lines;
      uncut = subst IsUncut (sym whole) (uncut_open h.front (last ++ more) clean (front_uncut bytes line last h));
    }

-- the line ends, and makes no cut
pub line_ends : (bytes : List ℕ) (line : ℕ) (last text all : List ℕ) → IsOpen bytes line last → NoFeed text → (0 < line → last ++ text ≡ word → ⊥) → all ≡ bytes ++ (text ++ 10 ∷ []) → IsOpen all (length all) []
line_ends bytes line last text all h lacks other is =
    let whole : all ≡ h.front ++ ((last ++ text) ++ 10 ∷ []) =
    is ∙ ap (λ (t : List ℕ). t ++ (text ++ 10 ∷ [])) h.whole ∙ append_assoc h.front last (text ++ 10 ∷ []) ∙ ap (λ (t : List ℕ). h.front ++ t) (sym (append_assoc last text (10 ∷ []))) in
    record {
      front = all;
      whole = sym (append-nil all);
      begins = refl;
      lacks = tt;
      lines = inr (bytes ++ text, is ∙ sym (append_assoc bytes text (10 ∷ [])));
      uncut = λ cut. let r = line_cuts h.front (last ++ text) (no_feed_then last text h.lacks lacks) h.lines (front_uncut bytes line last h) (subst HasCut whole cut) in other (omega (arith, h.begins, r.0)) r.1;
    }

-- the line ends, and makes a cut
pub line_is_section : (bytes : List ℕ) (line : ℕ) (last text all : List ℕ) → IsOpen bytes line last → 0 < line → last ++ text ≡ word → all ≡ bytes ++ (text ++ 10 ∷ [])
    → (part : List ℕ) × EndsLine part × IsUncut part × (all ≡ part ++ codes "section\n")
line_is_section bytes line last text all h some same is =
    let ends : EndsLine h.front = elim h.lines [ inl empty ↦ absurd (omega (arith, some, h.begins, ap length empty)) | inr ends ↦ ends ] in (
      h.front,
      ends,
      front_uncut bytes line last h,
      is ∙ ap (λ (t : List ℕ). t ++ (text ++ 10 ∷ [])) h.whole ∙ append_assoc h.front last (text ++ 10 ∷ []) ∙ ap (λ (t : List ℕ). h.front ++ t) (sym (append_assoc last text (10 ∷ [])) ∙ ap (λ (t : List ℕ). t ++ 10 ∷ []) same),
    )

-- ---- the parts of a text

-- the line `section` alone has no cut
pub section_uncut : IsUncut (codes "section\n")
section_uncut (f, m, e) = absurd (let z = ap length e in omega (arith, length-append f (10 ∷ (codes "section\n" ++ m))))

pub parts_more : (ps : List (List ℕ)) (old piece text : List ℕ) → ArePartsOf ps old text → IsUncut (old ++ piece) → ArePartsOf ps (old ++ piece) (text ++ piece)
parts_more [] old piece text h uncut = (uncut, ap (λ (t : List ℕ). t ++ piece) h.1)
parts_more (p ∷ ps) old piece text (ends, (whole, (more, is, ((m, begins), rest)))) uncut =
    (ends, (whole, (more ++ piece, ap (λ (t : List ℕ). t ++ piece) is ∙ append_assoc p more piece, ((m ++ piece, ap (λ (t : List ℕ). t ++ piece) begins), parts_more ps old piece more rest uncut))))

pub parts_cut : (ps : List (List ℕ)) (part old piece text : List ℕ) → ArePartsOf ps old text → EndsLine part → IsUncut part → old ++ piece ≡ part ++ codes "section\n" → ArePartsOf (ps ++ part ∷ []) (codes "section\n") (text ++ piece)
parts_cut [] part old piece text h ends uncut is =
    (ends, (uncut, (codes "section\n", ap (λ (t : List ℕ). t ++ piece) h.1 ∙ is, (([], refl), (section_uncut, refl)))))
parts_cut (p ∷ ps) part old piece text (first, (whole, (more, at, ((m, begins), rest)))) ends uncut is =
    (first, (whole, (more ++ piece, ap (λ (t : List ℕ). t ++ piece) at ∙ append_assoc p more piece, ((m ++ piece, ap (λ (t : List ℕ). t ++ piece) begins), parts_cut ps part old piece more rest ends uncut is))))

append_split : (p x q y : List ℕ) → p ++ x ≡ q ++ y → ((d : List ℕ) × (q ≡ p ++ d) × (x ≡ d ++ y)) ⊎ ((d : List ℕ) × (p ≡ q ++ d) × (y ≡ d ++ x))
append_split [] x q y e = inl (q, refl, e)
append_split (a ∷ p) x [] y e = inr (a ∷ p, refl, sym e)
append_split (a ∷ p) x (b ∷ q) y e = elim (append_split p x q y (cc)) [
  | inl (d, is, at) ↦ inl (d, cons_same b a q (p ++ d) (cc) is, at)
  | inr (d, is, at) ↦ inr (d, cons_same a b p (q ++ d) (cc) is, at)
]

-- the front of a line, or the line and more
prefix : (w d m y : List ℕ) → NoFeed w → w ++ 10 ∷ m ≡ d ++ y → NoFeed d ⊎ ((more : List ℕ) × (d ≡ w ++ 10 ∷ more))
prefix w [] m y lacks e = inl tt
prefix [] (x ∷ d) m y lacks e = inr (d, cons_same x 10 d d (cc) refl)
prefix (c ∷ w) (x ∷ d) m y lacks e =
    let same : x ≡ c = cc in
    elim (prefix w d m y lacks.1 (cc)) [
      | inl clean ↦ inl (subst (λ (b : ℕ). eqb b 10 ≡ false) (sym same) lacks.0, clean)
      | inr (more, is) ↦ inr (more, cons_same x c d (w ++ 10 ∷ more) same is)
    ]

-- a part that ends where another begins does not go on
no_longer : (p q d x y : List ℕ) → EndsLine p → EndsLine q → IsUncut q → BeginsSection x → q ≡ p ++ d → x ≡ d ++ y → d ≡ []
no_longer p q d x y (g, ends) last uncut (m, begins) is at = elim (prefix word d m y word_lacks (sym begins ∙ at)) [
  | inl clean ↦ no_bytes q p d is last clean
  | inr (more, line) ↦ absurd (uncut (g, more, is ∙ ap (λ (t : List ℕ). t ++ d) ends ∙ append_assoc g (10 ∷ []) d ∙ ap (λ (t : List ℕ). g ++ 10 ∷ t) line))
]

cut_once : (p x q y : List ℕ) → EndsLine p → EndsLine q → IsUncut p → IsUncut q → BeginsSection x → BeginsSection y → p ++ x ≡ q ++ y → (p ≡ q) × (x ≡ y)
cut_once p x q y pe qe pu qu xb yb e = elim (append_split p x q y e) [
  | inl (d, is, at) ↦ (let none = no_longer p q d x y pe qe qu xb is at in (sym (is ∙ ap (λ (t : List ℕ). p ++ t) none ∙ append-nil p), at ∙ ap (λ (t : List ℕ). t ++ y) none))
  | inr (d, is, at) ↦ (let none = no_longer q p d y x qe pe pu yb is at in (is ∙ ap (λ (t : List ℕ). q ++ t) none ∙ append-nil q, sym (at ∙ ap (λ (t : List ℕ). t ++ x) none)))
]

-- two parts have a cut between them
pub cut_between : (q more : List ℕ) → EndsLine q → BeginsSection more → HasCut (q ++ more)
cut_between q more (g, ends) (m, begins) = (g, m, ap (λ (t : List ℕ). t ++ more) ends ∙ append_assoc g (10 ∷ []) more ∙ ap (λ (t : List ℕ). g ++ 10 ∷ t) begins)

parts_same : (p q : List ℕ) (ps qs : List (List ℕ)) → p ≡ q → ps ≡ qs → p ∷ ps ≡ q ∷ qs
parts_same p q ps qs e f = rw (e, f) refl

pub parts_once : (ps qs : List (List ℕ)) (a b text : List ℕ) → ArePartsOf ps a text → ArePartsOf qs b text → (ps ≡ qs) × (a ≡ b)
parts_once [] [] a b text h k = (refl, sym h.1 ∙ k.1)
parts_once [] (q ∷ qs) a b text h (ends, (whole, (more, is, (begins, rest)))) = absurd (h.0 (subst HasCut (sym is ∙ h.1) (cut_between q more ends begins)))
parts_once (p ∷ ps) [] a b text (ends, (whole, (more, is, (begins, rest)))) k = absurd (k.0 (subst HasCut (sym is ∙ k.1) (cut_between p more ends begins)))
parts_once (p ∷ ps) (q ∷ qs) a b text (pe, (pu, (x, pis, (xb, prest)))) (qe, (qu, (y, qis, (yb, qrest)))) =
    let same = cut_once p x q y pe qe pu qu xb yb (sym pis ∙ qis) in
    let more = parts_once ps qs a b x prest (subst (ArePartsOf qs b) (sym same.1) qrest) in
    (parts_same p q ps qs same.0 more.0, more.1)

-- ---- the part that is cut off

pub cancel : (h a b : List ℕ) → h ++ a ≡ h ++ b → a ≡ b
cancel [] a b e = e
cancel (x ∷ h) a b e = cancel h a b (cc)

suffix_same : (a b c d : List ℕ) → length b ≡ length d → a ++ b ≡ c ++ d → a ≡ c
suffix_same a b c d size e = elim (append_split a b c d e) [
  | inl ([], is, at) ↦ sym (is ∙ append-nil a)
  | inl (x ∷ s, is, at) ↦ absurd (omega (arith, size, ap length at, length-append s d))
  | inr ([], is, at) ↦ is ∙ append-nil c
  | inr (x ∷ s, is, at) ↦ absurd (omega (arith, size, ap length at, length-append s b))
]

pub cut_behind : (held piece part : List ℕ) (taken : ℕ) → 8 ≤ taken → taken ≤ length piece → held ++ take taken piece ≡ part ++ codes "section\n" → held ++ take (taken - 8) piece ≡ part
cut_behind held piece part taken many within e =
    let split : take taken piece ≡ take (taken - 8) piece ++ take 8 (drop (taken - 8) piece) = take_parts (taken - 8) 8 taken piece (omega (arith, many)) in
    let size : length (take 8 (drop (taken - 8) piece)) ≡ 8 = length-take-le 8 (drop (taken - 8) piece) (omega (arith, many, within, length-drop (taken - 8) piece)) in
    suffix_same (held ++ take (taken - 8) piece) (take 8 (drop (taken - 8) piece)) part (codes "section\n") size
    (append_assoc held (take (taken - 8) piece) (take 8 (drop (taken - 8) piece)) ∙ ap (λ (t : List ℕ). held ++ t) (sym split) ∙ e)
  where
    take_parts : (n m k : ℕ) (l : List ℕ) → k ≡ n + m → take k l ≡ take n l ++ take m (drop n l)
    take_parts n m k l is = ap (λ (j : ℕ). take j l) is ∙ take-add n m l

pub cut_within : (held piece part : List ℕ) (taken : ℕ) → taken < 8 → taken ≤ length piece → held ++ take taken piece ≡ part ++ codes "section\n" → take (length held - (8 - taken)) held ≡ part
cut_within held piece part taken few within e =
    let k = length held - (8 - taken) in
    let all : length held + taken ≡ length part + 8 = omega (arith, ap length e, length-append held (take taken piece), length-append part (codes "section\n"), length-take-le taken piece within) in
    let size : length (drop k held ++ take taken piece) ≡ 8 = omega (arith, few, all, length-append (drop k held) (take taken piece), length-drop k held, length-take-le taken piece within) in
    suffix_same (take k held) (drop k held ++ take taken piece) part (codes "section\n") size
    (sym (append_assoc (take k held) (drop k held) (take taken piece)) ∙ ap (λ (t : List ℕ). t ++ take taken piece) (take-append-drop k held) ∙ e)

pub section_held : IsHeld (codes "section\n") 8
section_held = (omega arith, record { front = codes "section\n"; whole = sym (append-nil (codes "section\n")); begins = refl; lacks = tt; lines = inr (codes "section", refl); uncut = section_uncut })

-- ---- the search for a cut

abbrev NoS : List ℕ → Type 0
NoS bytes = AllByRecursion (λ b. (b == 115) ≡ false) bytes

front_calm : (a b : List ℕ) → NoS (a ++ b) → NoS a
front_calm [] b h = tt
front_calm (x ∷ a) b h = (h.0, front_calm a b h.1)

line_calm : (lines rest : List ℕ) → NoS (lines ++ 10 ∷ rest) → NoS (lines ++ 10 ∷ [])
line_calm lines rest h = front_calm (lines ++ 10 ∷ []) rest (subst NoS (sym (append_assoc lines (10 ∷ []) rest)) h)

s_within : (a b : List ℕ) → NoS (a ++ 115 ∷ b) → ⊥
s_within [] b h = absurd (let e = h.0 in cc)
s_within (x ∷ a) b h = s_within a b h.1

-- lines that have no `s` make no cut
calm_uncut : (bytes lines : List ℕ) → (bytes ≡ []) ⊎ EndsLine bytes → IsUncut bytes → NoS lines → IsUncut (bytes ++ lines)
calm_uncut bytes lines before uncut calm (f, m, e) = elim (append_split bytes lines (f ++ 10 ∷ []) (codes "section\n" ++ m) (e ∙ sym (append_assoc f (10 ∷ []) (codes "section\n" ++ m)))) [
  | inl (d, is, at) ↦ s_within d (codes "ection\n" ++ m) (subst NoS at calm)
  | inr (d, is, at) ↦ elim (prefix word d m lines word_lacks at) [
    | inl clean ↦ (let none = no_bytes bytes (f ++ 10 ∷ []) d is (line_ended d is) clean in s_within [] (codes "ection\n" ++ m) (subst NoS (sym (at ∙ ap (λ (t : List ℕ). t ++ lines) none)) calm))
    | inr (more, line) ↦ uncut (f, more, is ∙ append_assoc f (10 ∷ []) d ∙ ap (λ (t : List ℕ). f ++ 10 ∷ t) line)
  ]
]
  where
    line_ended : (d : List ℕ) → bytes ≡ (f ++ 10 ∷ []) ++ d → EndsLine bytes
    line_ended d is = elim before [
      | inl empty ↦ absurd (omega (arith, ap length is, ap length empty, length-append (f ++ 10 ∷ []) d, length-append f (10 ∷ [])))
      | inr ends ↦ ends
    ]

lines_end : (bytes lines : List ℕ) → (bytes ≡ []) ⊎ EndsLine bytes → (lines ≡ []) ⊎ EndsLine lines → (bytes ++ lines ≡ []) ⊎ EndsLine (bytes ++ lines)
lines_end bytes lines before more = elim more [
  | inl empty ↦ subst (λ (t : List ℕ). (t ≡ []) ⊎ EndsLine t) (sym (ap (λ (t : List ℕ). bytes ++ t) empty ∙ append-nil bytes)) before
  | inr (g, ends) ↦ inr (bytes ++ g, ap (λ (t : List ℕ). bytes ++ t) ends ∙ sym (append_assoc bytes g (10 ∷ [])))
]

-- the lines that are skipped
pub lines_skipped : (held piece behind rest : List ℕ) (line : ℕ) → ((seen : List ℕ) × (piece ≡ seen ++ behind) × IsOpen (held ++ seen) line [])
    → ((lines : List ℕ) × (behind ≡ lines ++ rest) × ((lines ≡ []) ⊎ EndsLine lines) × NoS lines)
    → (x : List ℕ) × (piece ≡ x ++ rest) × IsOpen (held ++ x) (length held + (length piece - length rest)) []
lines_skipped held piece behind rest line (seen, is, h) (lines, more, ends, calm) =
    let front = seen ++ lines in
    let whole : piece ≡ front ++ rest = is ∙ ap (λ (t : List ℕ). seen ++ t) more ∙ sym (append_assoc seen lines rest) in
    let all : held ++ front ≡ (held ++ seen) ++ lines = sym (append_assoc held seen lines) in
    let closed : h.front ≡ held ++ seen = sym (append-nil h.front) ∙ sym h.whole in
    let before : (held ++ seen ≡ []) ⊎ EndsLine (held ++ seen) = subst (λ (t : List ℕ). (t ≡ []) ⊎ EndsLine t) closed h.lines in (
      front,
      whole,
      record {
        front = held ++ front;
        whole = sym (append-nil (held ++ front));
        begins = omega (arith, length-append held front, ap length whole, length-append front rest);
        lacks = tt;
        lines = subst (λ (t : List ℕ). (t ≡ []) ⊎ EndsLine t) (sym all) (lines_end (held ++ seen) lines before ends);
        uncut = subst IsUncut (sym all) (calm_uncut (held ++ seen) lines before h.uncut calm);
      },
    )

-- the lines in front of bytes that have no `s`, and what is left behind them
pub calm_lines : (bytes calm tail lines rest : List ℕ) → bytes ≡ calm ++ tail → All (λ b. (b == 115) ≡ false) calm → calm ≡ lines ++ 10 ∷ rest
    → (x : List ℕ) × (bytes ≡ x ++ take (length bytes - (length lines + 1)) (drop (length lines + 1) bytes)) × ((x ≡ []) ⊎ EndsLine x) × NoS x
calm_lines bytes calm tail lines rest is lacks at =
    let front = lines ++ 10 ∷ [] in
    let size : length front ≡ length lines + 1 = length-append lines (10 ∷ []) in
    let whole : bytes ≡ front ++ (rest ++ tail) = is ∙ ap (λ (t : List ℕ). t ++ tail) at ∙ append_assoc lines (10 ∷ rest) tail ∙ sym (append_assoc lines (10 ∷ []) (rest ++ tail)) in
    let left : drop (length lines + 1) bytes ≡ rest ++ tail = ap (λ (n : ℕ). drop n bytes) (sym size) ∙ ap (drop (length front)) whole ∙ drop-append_seam front (rest ++ tail) in
    let few : length bytes - (length lines + 1) ≡ length (rest ++ tail) = omega (arith, size, ap length whole, length-append front (rest ++ tail)) in
    let taken : take (length bytes - (length lines + 1)) (drop (length lines + 1) bytes) ≡ rest ++ tail =
    ap (λ (n : ℕ). take n (drop (length lines + 1) bytes)) few ∙ ap (take (length (rest ++ tail))) left ∙ take-length (rest ++ tail) in
    (front, whole ∙ ap (λ (t : List ℕ). front ++ t) (sym taken), inr (lines, refl), line_calm lines rest (subst NoS at (recursion_from_All (λ b. (b == 115) ≡ false) calm lacks)))

pub lacks_feed : (text : List ℕ) → Lacks text 10 → NoFeed text
lacks_feed text lacks = recursion_from_All (λ b. eqb b 10 ≡ false) text lacks

seen_more : (piece seen rest text behind : List ℕ) → piece ≡ seen ++ rest → rest ≡ text ++ 10 ∷ behind → piece ≡ (seen ++ (text ++ 10 ∷ [])) ++ behind
seen_more piece seen rest text behind is cut =
    is ∙ ap (λ (t : List ℕ). seen ++ t) (cut ∙ sym (append_assoc text (10 ∷ []) behind)) ∙ sym (append_assoc seen (text ++ 10 ∷ []) behind)

seen_size : (piece front behind : List ℕ) → piece ≡ front ++ behind → length piece - length behind ≡ length front
seen_size piece front behind is = omega (arith, ap length is, length-append front behind)

pub found_cut : (held seen piece rest text behind head : List ℕ) (line : ℕ) → IsOpen (held ++ seen) line head → piece ≡ seen ++ rest → rest ≡ text ++ 10 ∷ behind → 0 < line → head ++ text ≡ word
    → CutsAt held piece (length piece - length behind)
found_cut held seen piece rest text behind head line h is cut some same =
    let front = seen ++ (text ++ 10 ∷ []) in
    let size = seen_size piece front behind (seen_more piece seen rest text behind is cut) in
    let taken : take (length piece - length behind) piece ≡ front =
    ap (λ (n : ℕ). take n piece) size ∙ ap (take (length front)) (seen_more piece seen rest text behind is cut) ∙ take-append_seam front behind in
    let r = line_is_section (held ++ seen) line head text (held ++ front) h some same (sym (append_assoc held seen (text ++ 10 ∷ []))) in
    (omega arith, (r.0, record { ends = r.1; uncut = r.2; is = ap (λ (t : List ℕ). held ++ t) taken ∙ r.3 }))

pub line_passed : (held seen piece rest text behind head : List ℕ) (line : ℕ) → IsOpen (held ++ seen) line head → piece ≡ seen ++ rest → rest ≡ text ++ 10 ∷ behind → NoFeed text → (0 < line → head ++ text ≡ word → ⊥)
    → (x : List ℕ) × (piece ≡ x ++ behind) × IsOpen (held ++ x) (length held + (length piece - length behind)) []
line_passed held seen piece rest text behind head line h is cut lacks other =
    let front = seen ++ (text ++ 10 ∷ []) in
    let more = seen_more piece seen rest text behind is cut in
    let size : length (held ++ front) ≡ length held + (length piece - length behind) = omega (arith, length-append held front, seen_size piece front behind more) in
    (front, more, subst (λ (n : ℕ). IsOpen (held ++ front) n []) size (line_ends (held ++ seen) line head text (held ++ front) h lacks other (sym (append_assoc held seen (text ++ 10 ∷ [])))))

open_held : (bytes : List ℕ) (line : ℕ) (last : List ℕ) → IsOpen bytes line last → IsHeld bytes line
open_held bytes line last h =
    let same : drop line bytes ≡ last = ap (drop line) h.whole ∙ ap (λ (n : ℕ). drop n (h.front ++ last)) h.begins ∙ drop-append_seam h.front last in
    (omega (arith, ap length h.whole, h.begins, length-append h.front last), subst (IsOpen bytes line) (sym same) h)

pub piece_ends : (held seen piece rest head : List ℕ) (line : ℕ) → IsOpen (held ++ seen) line head → piece ≡ seen ++ rest → NoFeed rest → IsHeld (held ++ piece) line
piece_ends held seen piece rest head line h is lacks =
    let whole : held ++ piece ≡ (held ++ seen) ++ rest = ap (λ (t : List ℕ). held ++ t) is ∙ sym (append_assoc held seen rest) in
    subst (λ (b : List ℕ). IsHeld b line) (sym whole) (open_held ((held ++ seen) ++ rest) line (head ++ rest) (open_more (held ++ seen) line head rest h lacks))
