-- The lines that a lane holds.
use Rattle.std.proofs.Common.{◌≡◌, ℕ, zero, suc, ◌+◌, ◌-◌, ◌≤◌, ◌<◌, List, [], ◌∷◌, ◌++◌, length, map, take, drop, refl, sym, ap, ◌∙◌, subst, arith, length-append}
use Rattle.std.specs.Prelude.{Option, Some, option_map, slice_get, Result, Ok, Err, OnErr}
use Rattle.std.specs.List.{AllByRecursion}
use Rattle.std.proofs.lemmas.List.{length-map, map-append, take-append-le, drop-append-le, length-drop}
use Rattle.script_text.specs.declared.hook_line.HookLine.{HookLine}
use Rattle.script_text.specs.declared.hook_line.HookLine.TheVariants as hooks
use Rattle.script_text.specs.declared.lane.HeadPlace.{HeadPlace}
use Rattle.script_text.specs.Lines.{LaneLine}
use Rattle.script_text.specs.Lanes.{numbered, with_head, head_at, HeadStands, IsPlaceIn, ComesNext}

numbered_length : (n : ℕ) (ls : List LaneLine) → length (numbered n ls) ≡ length ls
numbered_length n [] = refl
numbered_length n (l ∷ ls) = omega (arith, numbered_length (n + 1) ls)

pub lane_length : (n : ℕ) (heads : List ℕ) (lines : List (HookLine HeadPlace)) → length (numbered n (map (with_head heads) lines)) ≡ length lines
lane_length n heads lines = numbered_length n (map (with_head heads) lines) ∙ length-map lines (with_head heads)

-- more bytes behind those of a lane change no line of it
head_more : (heads more : List ℕ) (p : HeadPlace) → IsPlaceIn (length heads) p → head_at (heads ++ more) p ≡ head_at heads p
head_more heads more p h =
    let start : p.start ≤ length heads = omega (arith, h.in_order, h.in_range) in
    let room : p.end - p.start ≤ length (drop p.start heads) = omega (arith, h.in_order, h.in_range, length-drop p.start heads) in
    ap (λ (bytes : List ℕ). take (p.end - p.start) bytes) (drop-append-le p.start heads more start) ∙ take-append-le (p.end - p.start) (drop p.start heads) more room

line_more : (heads more : List ℕ) (l : HookLine HeadPlace) → HeadStands (length heads) l → with_head (heads ++ more) l ≡ with_head heads l
line_more heads more (hooks.Hook dir family uid iface len cookie head) h = ap (hooks.Hook dir family uid iface len cookie) (head_more heads more head h)
line_more heads more (hooks.Packet dir uid iface index cookie) h = refl
line_more heads more (hooks.Iface call) h = refl
line_more heads more (hooks.Allow received uid cookie) h = refl
line_more heads more (hooks.Deny uid) h = refl

cons_same : (l o : LaneLine) (xs ys : List LaneLine) → l ≡ o → xs ≡ ys → l ∷ xs ≡ o ∷ ys
cons_same l o xs ys p q = rw (p, q) refl

lines_more : (heads more : List ℕ) (lines : List (HookLine HeadPlace)) → AllByRecursion (HeadStands (length heads)) lines → map (with_head (heads ++ more)) lines ≡ map (with_head heads) lines
lines_more heads more [] h = refl
lines_more heads more (l ∷ ls) h = cons_same (with_head (heads ++ more) l) (with_head heads l) (map (with_head (heads ++ more)) ls) (map (with_head heads) ls) (line_more heads more l h.0) (lines_more heads more ls h.1)

pub lane_same : (n : ℕ) (heads new more : List ℕ) (lines : List (HookLine HeadPlace)) → new ≡ heads ++ more → AllByRecursion (HeadStands (length heads)) lines → numbered n (map (with_head new) lines) ≡ numbered n (map (with_head heads) lines)
lane_same n heads new more lines e h = ap (λ (bytes : List ℕ). numbered n (map (with_head bytes) lines)) e ∙ ap (numbered n) (lines_more heads more lines h)

stands_more : (n m : ℕ) (l : HookLine HeadPlace) → n ≤ m → HeadStands n l → HeadStands m l
stands_more n m (hooks.Hook dir family uid iface len cookie head) le h = record { in_order = h.in_order; in_range = omega (arith, le, h.in_range) }
stands_more n m (hooks.Packet dir uid iface index cookie) le h = tt
stands_more n m (hooks.Iface call) le h = tt
stands_more n m (hooks.Allow received uid cookie) le h = tt
stands_more n m (hooks.Deny uid) le h = tt

all_more : (n m : ℕ) (lines : List (HookLine HeadPlace)) → n ≤ m → AllByRecursion (HeadStands n) lines → AllByRecursion (HeadStands m) lines
all_more n m [] le h = tt
all_more n m (l ∷ ls) le h = (stands_more n m l le h.0, all_more n m ls le h.1)

pub lane_stands : (heads new more : List ℕ) (lines : List (HookLine HeadPlace)) → new ≡ heads ++ more → AllByRecursion (HeadStands (length heads)) lines → AllByRecursion (HeadStands (length new)) lines
lane_stands heads new more lines e h = all_more (length heads) (length new) lines (omega (arith, ap length e, length-append heads more)) h

all_push : (n : ℕ) (lines : List (HookLine HeadPlace)) (l : HookLine HeadPlace) → AllByRecursion (HeadStands n) lines → HeadStands n l → AllByRecursion (HeadStands n) (lines ++ l ∷ [])
all_push n [] l h k = (k, tt)
all_push n (m ∷ ls) l h k = (h.0, all_push n ls l h.1 k)

pub lane_stands_push : (heads new more : List ℕ) (lines all : List (HookLine HeadPlace)) (l : HookLine HeadPlace) → new ≡ heads ++ more → AllByRecursion (HeadStands (length heads)) lines → HeadStands (length new) l → all ≡ lines ++ l ∷ [] → AllByRecursion (HeadStands (length new)) all
lane_stands_push heads new more lines all l e h k is = subst (AllByRecursion (HeadStands (length new))) (sym is) (all_push (length new) lines l (lane_stands heads new more lines e h) k)

numbered_push : (n number : ℕ) (ls : List LaneLine) (l : LaneLine) → number ≡ n + length ls → numbered n (ls ++ l ∷ []) ≡ numbered n ls ++ (number, l) ∷ []
numbered_push n number [] l e = let same : n ≡ number = omega (arith, e) in ap (λ (k : ℕ). (k, l) ∷ []) same
numbered_push n number (m ∷ ls) l e = ap (λ (t : List (ℕ × LaneLine)). (n, m) ∷ t) (numbered_push (n + 1) number ls l (omega (arith, e)))

-- the number of the line that comes next
next_number : (n : ℕ) (ls : List LaneLine) (number : ℕ) → ComesNext (numbered n ls) number → 0 < length ls → number ≡ n + length ls
next_number n [] number next some = absurd (omega (arith, some))
next_number n (l ∷ ls) number next some = omega (arith, next, numbered_length (n + 1) ls)

pub lane_push : (n number : ℕ) (heads new more : List ℕ) (lines all : List (HookLine HeadPlace)) (kept : HookLine HeadPlace) (line : LaneLine)
    → new ≡ heads ++ more → AllByRecursion (HeadStands (length heads)) lines → all ≡ lines ++ kept ∷ [] → with_head new kept ≡ line
    → ComesNext (numbered n (map (with_head heads) lines)) number → 0 < length lines
    → numbered n (map (with_head new) all) ≡ numbered n (map (with_head heads) lines) ++ (number, line) ∷ []
lane_push n number heads new more lines all kept line e h is same next some =
    let mapped : map (with_head new) all ≡ map (with_head heads) lines ++ line ∷ [] =
    ap (map (with_head new)) is ∙ map-append (with_head new) lines (kept ∷ []) ∙ ap (λ (t : List LaneLine). map (with_head new) lines ++ t) (ap (λ (l : LaneLine). l ∷ []) same)
    ∙ ap (λ (t : List LaneLine). t ++ line ∷ []) (ap (λ (bytes : List ℕ). map (with_head bytes) lines) e ∙ lines_more heads more lines h) in
    let size = length-map lines (with_head heads) in
    let next_is = next_number n (map (with_head heads) lines) number next (omega (arith, some, size)) in
    ap (numbered n) mapped ∙ numbered_push n number (map (with_head heads) lines) line next_is

pub lane_next : (n number : ℕ) (heads : List ℕ) (lines : List (HookLine HeadPlace)) → ComesNext (numbered n (map (with_head heads) lines)) number → 0 < length lines → number ≡ n + length lines
lane_next n number heads lines next some =
    let size = length-map lines (with_head heads) in
    omega (arith, size, next_number n (map (with_head heads) lines) number next (omega (arith, some, size)))

numbered_get : (n : ℕ) (ls : List LaneLine) (i : ℕ) → slice_get (numbered n ls) i ≡ option_map (λ (l : LaneLine). (n + i, l)) (slice_get ls i)
numbered_get n [] i = refl
numbered_get n (l ∷ ls) zero = let same : n ≡ n + 0 = omega arith in ap (λ (k : ℕ). Some (k, l)) same
numbered_get n (l ∷ ls) (suc i) = let same : n + 1 + i ≡ n + suc i = omega arith in numbered_get (n + 1) ls i ∙ ap (λ (k : ℕ). option_map (λ (x : LaneLine). (k, x)) (slice_get ls i)) same

map_get : (heads : List ℕ) (lines : List (HookLine HeadPlace)) (i : ℕ) → slice_get (map (with_head heads) lines) i ≡ option_map (with_head heads) (slice_get lines i)
map_get heads [] i = refl
map_get heads (l ∷ ls) zero = refl
map_get heads (l ∷ ls) (suc i) = map_get heads ls i

pub lane_get : (n : ℕ) (heads : List ℕ) (lines : List (HookLine HeadPlace)) (i : ℕ) (found : Option (HookLine HeadPlace)) → found ≡ slice_get lines i
    → option_map (λ (l : LaneLine). (n + i, l)) (option_map (with_head heads) found) ≡ slice_get (numbered n (map (with_head heads) lines)) i
lane_get n heads lines i found e =
    ap (λ (f : Option (HookLine HeadPlace)). option_map (λ (l : LaneLine). (n + i, l)) (option_map (with_head heads) f)) e
    ∙ ap (option_map (λ (l : LaneLine). (n + i, l))) (sym (map_get heads lines i)) ∙ sym (numbered_get n (map (with_head heads) lines) i)

pub err_fact : {A E : Type 0} (r : Result A E) (P : Type 0) → P → OnErr r P
err_fact (Ok x) P p = tt
err_fact (Err e) P p = p
