-- Places, and sums over seats.
use Rattle.std.proofs.Common.{◌≡◌, ◌≢◌, ℕ, zero, suc, ◌+◌, ◌*◌, ◌≤◌, ◌<◌, List, [], ◌∷◌, length, get_or, set, sum_by, refl, sym, ap, ◌∙◌, subst, arith, lt_of_not-le}
use Rattle.std.proofs.lemmas.List.Sums.{sum_by-set, sum_by-cons}
use mathlib.Core.Logic.{dite}
use mathlib.Core.Option.{some, some-injective, some-ne-none}
use native.Mathlib.Decide.{dec_le}
use lib.ListN.{get_elem?}
use Rattle.acct_base.specs.declared.charge.Landed.{Landed}
use Rattle.acct_base.specs.declared.charge.Landed.TheVariants.{Row as InRow, Full}
use Rattle.total_rows.specs.declared.plan.Addition.{Addition}
use Rattle.total_rows.specs.declared.plan.View.{View}
use Rattle.total_rows.specs.declared.plan.Stage.{Stage}
use Rattle.total_rows.specs.declared.plan.Stage.TheVariants.{Idle, Probing, Row, Half, Looking, Reading}
use Rattle.row_probe.specs.Places.{place}
use Rattle.row_probe.proofs.Turns.{place-lt, place-injective}
use Rattle.total_rows.specs.Rows.{code, spot, Decided, AllDecided, At, Owned}
use Rattle.total_rows.specs.Rule.{Stands, IsAdd, Sits}

pub place_below : (k turn n : ℕ) → turn < n → place k 1 turn n < n
place_below k turn n h = place-lt k 1 turn n h

pub place_once : (k t u n : ℕ) → t < n → u < n → place k 1 t n ≡ place k 1 u n → t ≡ u
place_once k t u n h i e = place-injective k 1 t u n h i e

-- a key word that is not 0 stays
abbrev pub Stays : ℕ → List ℕ → List ℕ → Type 0
Stays rows words later = (q : ℕ) → q < rows → get_or words q 0 ≢ 0 → get_or later q 0 ≡ get_or words q 0

module _ (rows : ℕ) (words later : List ℕ) (stays : Stays rows words later) where
  pub decided_stays : (key turn : ℕ) → turn < rows → Decided rows words key turn → Decided rows later key turn
  decided_stays key turn h d = let e = stays (spot rows key turn) (place_below (code key) turn rows h) d.0 in (λ n. d.0 (sym e ∙ n), λ n. d.1 (sym e ∙ n))

  pub all_stay : (key turn : ℕ) → turn ≤ rows → AllDecided rows words key turn → AllDecided rows later key turn
  all_stay key turn h d u l = decided_stays key u (omega arith) (d u l)

  pub at_stays : (key turn : ℕ) → At rows words key turn → At rows later key turn
  at_stays key turn a = let inside = a.inside in record {
    inside = a.inside;
    is = stays (spot rows key turn) (place_below (code key) turn rows a.inside) (λ (n : get_or words (spot rows key turn) 0 ≡ 0). let e = a.is in absurd (omega arith)) ∙ a.is;
    earlier = all_stay key turn (omega arith) a.earlier;
  }

  pub owned_stays : (p : ℕ) → Owned rows words p → Owned rows later p
  owned_stays p o = record { key = o.key; turn = o.turn; at = at_stays o.key o.turn o.at; here = o.here }

  pub add_stays : (a : Addition) (b : Landed) → IsAdd rows words a b → IsAdd rows later a b
  add_stays a (InRow row) h = (h.0, (h.1.0, at_stays a.job.key h.1.0 h.1.1, h.1.2))
  add_stays a Full h = (h.0, all_stay a.job.key rows (omega arith) h.1)

  stands_on : (st : Stage) → Stands rows words st → Stands rows later st
  stands_on Idle h = tt
  stands_on (Probing j turn) h = (h.0, (h.1.0, all_stay j.key turn h.1.0 h.1.1))
  stands_on (Row j turn) h = (h.0, at_stays j.key turn h.1)
  stands_on (Half j turn) h = (h.0, at_stays j.key turn h.1)
  stands_on (Looking key turn) h = (h.0, all_stay key turn h.0 h.1)
  stands_on (Reading key turn) h = at_stays key turn h

  pub sits_on : (v : View) → Sits rows words v → Sits rows later v
  sits_on v s = record { stands = stands_on v.stage s.stands; adds = λ i a e. add_stays a a.landed (s.adds i a e); counted = s.counted }

pub same_code : (a b : ℕ) → code a ≡ code b → a ≡ b
same_code a b e = omega arith

-- who has a key's word at one of the key's places is the key
pub owner_is : (rows : ℕ) (words : List ℕ) (key turn : ℕ) → turn < rows → get_or words (spot rows key turn) 0 ≡ code key → Owned rows words (spot rows key turn) → At rows words key turn
owner_is rows words key turn inside is o = let a = o.at in
    let same : o.key ≡ key = same_code o.key key (sym a.is ∙ (ap (λ (q : ℕ). get_or words q 0) o.here ∙ is)) in
    let b : At rows words key o.turn = subst (λ (x : ℕ). At rows words x o.turn) same a in
    let e : o.turn ≡ turn = place_once (code key) o.turn turn rows b.inside inside (ap (λ (x : ℕ). spot rows x o.turn) (sym same) ∙ o.here) in
    subst (At rows words key) e b

-- a key has one place
pub at_once : (rows : ℕ) (words : List ℕ) (key t u : ℕ) → At rows words key t → At rows words key u → t ≡ u
at_once rows words key t u a b = dite (dec_le u t)
    (λ (le : u ≤ t). dite (dec_le t u) (λ (ge : t ≤ u). omega arith) (λ no_. absurd ((a.earlier u (lt_of_not-le no_)).1 b.is)))
    (λ no_. absurd ((b.earlier t (lt_of_not-le no_)).1 a.is))

pub nowhere : (rows : ℕ) (words : List ℕ) (key turn : ℕ) → AllDecided rows words key turn → get_or words (spot rows key turn) 0 ≡ 0 → (u : ℕ) → At rows words key u → ⊥
nowhere rows words key turn all free u a = dite (dec_le turn u)
    (λ (le : turn ≤ u). dite (dec_le u turn) (λ (ge : u ≤ turn). let e : turn ≡ u = omega arith in let is = a.is in let f : get_or words (spot rows key u) 0 ≡ 0 = subst (λ (n : ℕ). get_or words (spot rows key n) 0 ≡ 0) e free in omega arith)
    (λ no_. (a.earlier turn (lt_of_not-le no_)).0 free))
    (λ no_. (all u (lt_of_not-le no_)).1 a.is)

pub more_decided : (rows : ℕ) (words : List ℕ) (key turn : ℕ) → AllDecided rows words key turn → Decided rows words key turn → AllDecided rows words key (turn + 1)
more_decided rows words key turn all now u h = dite (dec_le turn u) (λ (le : turn ≤ u). let e : turn ≡ u = omega arith in subst (Decided rows words key) e now) (λ no_. all u (lt_of_not-le no_))

-- sums over seats
pub read_at : {A : Type 0} (l : List A) (i : ℕ) (v d : A) → get_elem? l i ≡ some v → (i < length l) × (get_or l i d ≡ v)
read_at [] i v d e = absurd (some-ne-none v (sym e))
read_at (x ∷ xs) zero v d e = (omega arith, some-injective x v e)
read_at (x ∷ xs) (suc i) v d e = let t = read_at xs i v d e in let h = t.0 in (omega arith, t.1)

pub sum_moved : (f : View → ℕ) (vs : List View) (i : ℕ) (v w : View) → get_elem? vs i ≡ some v → sum_by f (set vs i w) + f v ≡ sum_by f vs + f w
sum_moved f vs i v w e = let t = read_at vs i v v e in subst (λ (x : View). sum_by f (set vs i w) + f x ≡ sum_by f vs + f w) t.1 (sum_by-set f vs i w v t.0)

pub in_sum : (f : View → ℕ) (vs : List View) (i : ℕ) (v : View) → get_elem? vs i ≡ some v → f v ≤ sum_by f vs
in_sum f [] i v e = absurd (some-ne-none v (sym e))
in_sum f (x ∷ xs) zero v e = let s : f x ≡ f v = ap f (some-injective x v e) in let c = sum_by-cons f x xs in omega arith
in_sum f (x ∷ xs) (suc i) v e = let h = in_sum f xs i v e in let c = sum_by-cons f x xs in omega arith

below_step : (a b ab c d cd k : ℕ) → ab ≡ a + b → cd ≡ c + d → a ≤ c * k → b ≤ d * k → ab ≤ cd * k
below_step a b ab c d cd k e f h i = grind arith

pub sum_below : (f g : View → ℕ) (k : ℕ) (vs : List View) → ((i : ℕ) (v : View) → get_elem? vs i ≡ some v → f v ≤ g v * k) → sum_by f vs ≤ sum_by g vs * k
sum_below f g k [] h = omega arith
sum_below f g k (x ∷ xs) h = let a = h 0 x refl in let b = sum_below f g k xs (λ i v e. h (suc i) v e) in below_step (f x) (sum_by f xs) (sum_by f (x ∷ xs)) (g x) (sum_by g xs) (sum_by g (x ∷ xs)) k (sum_by-cons f x xs) (sum_by-cons g x xs) a b

pub zero_sum : (f : View → ℕ) (vs : List View) → ((i : ℕ) (v : View) → get_elem? vs i ≡ some v → f v ≡ 0) → sum_by f vs ≡ 0
zero_sum f [] h = refl
zero_sum f (x ∷ xs) h = let a = h 0 x refl in let b = zero_sum f xs (λ i v e. h (suc i) v e) in let c = sum_by-cons f x xs in omega arith
