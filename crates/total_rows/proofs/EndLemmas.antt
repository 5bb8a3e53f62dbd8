-- For a seat that has all calls of the table: its rows are the totals of the seat's adds.
use Rattle.std.proofs.Common.{◌≡◌, ◌≢◌, ℕ, zero, suc, ◌+◌, ◌-◌, ◌*◌, ◌^◌, ◌≤◌, ◌<◌, Bool, true, false, ◌||◌, ◌&&◌, nat_eq, cond, List, [], ◌∷◌, ◌++◌, length, map, get_or, sum_by, refl, sym, ap, ◌∙◌, subst, ◌⊎◌, inl, inr, ⊎_elim, arith, eq-eqb, ne_eqb, true≢false, lt_of_not-le, length-append}
use Rattle.std.specs.Prelude.{◌==◌}
use Rattle.std.specs.List.{AllByRecursion, IsDistinct, list_any, All}
use Rattle.std.specs.List.Sorted.{IsPermutation, IsNonDecreasingBy}
use Rattle.std.proofs.lemmas.List.Sums.{sum_by-append, sum_by-cons}
use Rattle.std.proofs.lemmas.List.Sorted.{All-permutation, sum_by-IsPermutation, IsPermutation-map, length_permutation}
use Rattle.std.proofs.lemmas.Map.Keys.{IsStrictlyIncreasing-from_distinct, sorted_from_strictly_increasing, IsDistinct-IsPermutation}
use mathlib.Core.Logic.{dite}
use mathlib.Core.Option.{some}
use native.Mathlib.Decide.{dec_le, ℕ_discrete}
use lib.ListN.{get_elem?}
use Rattle.atomic_table.specs.Table.{State, Final, Seen}
use Rattle.row_probe.proofs.Turns.{place-surjective}
use Rattle.acct_base.specs.declared.amount.Amount.{Amount}
use Rattle.acct_base.specs.Amounts.{amount_if, plus, zero_amount}
use Rattle.acct_base.specs.Receipts.{Add}
use Rattle.acct_base.specs.Sums.{added as total_of, total_at, has_key, lands_on, AreTotals}
use Rattle.total_rows.specs.declared.plan.Plan.{Plan}
use Rattle.total_rows.specs.declared.plan.Addition.{Addition}
use Rattle.total_rows.specs.declared.plan.View.{View}
use Rattle.total_rows.specs.declared.plan.Stage.TheVariants.{Idle}
use Rattle.total_rows.specs.Rows.{code, spot, AllDecided, At}
use Rattle.total_rows.specs.Sums.{if_is, added, under_way, stands_at}
use Rattle.total_rows.specs.Rule.{calls, IsAdd, Kept}
use Rattle.acct_base.specs.declared.charge.Landed.{Landed}
use Rattle.acct_base.specs.declared.charge.Landed.TheVariants.{Row as InRow, Full}
use Rattle.acct_base.specs.Distinct.{mem, NoTwice}
use Rattle.acct_base.specs.Landings.{is_row}
use Rattle.total_rows.specs.Shown.{shown}
use Rattle.total_rows.specs.Closed.{row_amount, row_pair, rows_below, key_of, AreKeys}
use Rattle.acct_base.proofs.Members.{or_right}
use Rattle.total_rows.proofs.Spots.{place_below, in_sum}
use Rattle.total_rows.proofs.LandingLemmas.{keys_landed, all_at, all-append}
use Rattle.total_rows.proofs.Keeps.{sole_has_all, none_added}
use Rattle.total_rows.proofs.Counts.{apart, row_landed}
use Rattle.total_rows.proofs.ShownLemmas.{total_rx_packets, total_rx_bytes, total_tx_packets, total_tx_bytes, amount_is}

abbrev U : Type 0
U = Unit {0}

-- ---- one row

own_row : (rows p key n : ℕ) (words : List ℕ) (pick : Amount → ℕ) → get_or words p 0 ≡ code key → pick (row_amount rows words p) ≡ n
    → sum_by (λ (t : ℕ × Amount). if_is (nat_eq t.0 key) (pick t.1)) (row_pair rows words p) ≡ n
own_row rows p key n words pick is e = subst (λ (w : ℕ). sum_by (λ (t : ℕ × Amount). if_is (nat_eq t.0 key) (pick t.1)) (cond (nat_eq w 0) [] ((w - 1, row_amount rows words p) ∷ [])) ≡ n) (sym is)
    (ap (λ (b : Bool). sum_by (λ (t : ℕ × Amount). if_is (nat_eq t.0 key) (pick t.1)) (cond b [] ((code key - 1, row_amount rows words p) ∷ []))) (ne_eqb (code key) 0 (λ (z : code key ≡ 0). omega (arith, z)))
    ∙ sum_by-cons (λ (t : ℕ × Amount). if_is (nat_eq t.0 key) (pick t.1)) (code key - 1, row_amount rows words p) []
    ∙ last_one (if_is (nat_eq (code key - 1) key) (pick (row_amount rows words p))) n (ap (λ (b : Bool). if_is b (pick (row_amount rows words p))) (eq-eqb (code key - 1) key (omega arith)) ∙ e))
  where
    last_one : (a n : ℕ) → a ≡ n → a + 0 ≡ n
    last_one a n e = omega (arith, e)

other_row : (rows p key : ℕ) (words : List ℕ) (pick : Amount → ℕ) → get_or words p 0 ≢ code key → sum_by (λ (t : ℕ × Amount). if_is (nat_eq t.0 key) (pick t.1)) (row_pair rows words p) ≡ 0
other_row rows p key words pick ne = dite (ℕ_discrete (get_or words p 0) 0)
    (λ (free : get_or words p 0 ≡ 0). ap (λ (b : Bool). sum_by (λ (t : ℕ × Amount). if_is (nat_eq t.0 key) (pick t.1)) (cond b [] ((get_or words p 0 - 1, row_amount rows words p) ∷ []))) (eq-eqb (get_or words p 0) 0 free))
    (λ taken. ap (λ (b : Bool). sum_by (λ (t : ℕ × Amount). if_is (nat_eq t.0 key) (pick t.1)) (cond b [] ((get_or words p 0 - 1, row_amount rows words p) ∷ []))) (ne_eqb (get_or words p 0) 0 taken)
    ∙ sum_by-cons (λ (t : ℕ × Amount). if_is (nat_eq t.0 key) (pick t.1)) (get_or words p 0 - 1, row_amount rows words p) []
    ∙ no_one (if_is (nat_eq (get_or words p 0 - 1) key) (pick (row_amount rows words p))) (ap (λ (b : Bool). if_is b (pick (row_amount rows words p))) (ne_eqb (get_or words p 0 - 1) key (λ (e : get_or words p 0 - 1 ≡ key). ne (one_less (get_or words p 0) key taken e)))))
  where
    no_one : (a : ℕ) → a ≡ 0 → a + 0 ≡ 0
    no_one a e = omega (arith, e)

    one_less : (w k : ℕ) → w ≢ 0 → w - 1 ≡ k → w ≡ k + 1
    one_less w k t e = omega (arith, t, e)

both_none : (a b ab : ℕ) → ab ≡ a + b → a ≡ 0 → b ≡ 0 → ab ≡ 0
both_none a b ab e f g = omega (arith, e, f, g)

first_none : (a b ab n : ℕ) → ab ≡ a + b → a ≡ 0 → b ≡ n → ab ≡ n
first_none a b ab n e f g = omega (arith, e, f, g)

last_none : (a b ab n : ℕ) → ab ≡ a + b → a ≡ n → b ≡ 0 → ab ≡ n
last_none a b ab n e f g = omega (arith, e, f, g)

-- ---- all rows

module _ (rows : ℕ) (words : List ℕ) (key : ℕ) (pick : Amount → ℕ) where
  counts : ℕ × Amount → ℕ
  counts t = if_is (nat_eq t.0 key) (pick t.1)

  pub no_row : (p : ℕ) → ((q : ℕ) → q < p → get_or words q 0 ≢ code key) → sum_by (λ (t : ℕ × Amount). if_is (nat_eq t.0 key) (pick t.1)) (rows_below rows words p) ≡ 0
  no_row zero h = refl
  no_row (suc p) h = both_none _ _ _ (sum_by-append (λ (t : ℕ × Amount). if_is (nat_eq t.0 key) (pick t.1)) (rows_below rows words p) (row_pair rows words p))
      (no_row p (λ q l. h q (omega (arith, l)))) (other_row rows p key words pick (h p (omega arith)))

  pub one_row : (p q n : ℕ) → q < p → get_or words q 0 ≡ code key → ((i : ℕ) → i < p → i ≢ q → get_or words i 0 ≢ code key) → pick (row_amount rows words q) ≡ n
      → sum_by (λ (t : ℕ × Amount). if_is (nat_eq t.0 key) (pick t.1)) (rows_below rows words p) ≡ n
  one_row zero q n l is others e = absurd (omega (arith, l))
  one_row (suc p) q n l is others e = dite (ℕ_discrete p q)
      (λ (same : p ≡ q). first_none _ _ _ n (sum_by-append (λ (t : ℕ × Amount). if_is (nat_eq t.0 key) (pick t.1)) (rows_below rows words p) (row_pair rows words p))
      (no_row p (λ i h. others i (omega (arith, h)) (λ (f : i ≡ q). omega (arith, h, same, f))))
      (own_row rows p key n words pick (subst (λ (x : ℕ). get_or words x 0 ≡ code key) (sym same) is) (subst (λ (x : ℕ). pick (row_amount rows words x) ≡ n) (sym same) e)))
      (λ ne. last_none _ _ _ n (sum_by-append (λ (t : ℕ × Amount). if_is (nat_eq t.0 key) (pick t.1)) (rows_below rows words p) (row_pair rows words p))
      (one_row p q n (below_too p q l ne) is (λ i h. others i (omega (arith, h))) e)
      (other_row rows p key words pick (others p (omega arith) ne)))
    where
      below_too : (p q : ℕ) → q < suc p → p ≢ q → q < p
      below_too p q l ne = omega (arith, l, ne)

-- a word is among the rows, or is not
find_row : (words : List ℕ) (x p : ℕ) → ((q : ℕ) × (q < p) × (get_or words q 0 ≡ x)) ⊎ ((q : ℕ) → q < p → get_or words q 0 ≢ x)
find_row words x zero = inr (λ q l. absurd (omega (arith, l)))
find_row words x (suc p) = ⊎_elim
    (λ (t : (q : ℕ) × (q < p) × (get_or words q 0 ≡ x)). inl (t.0, let l = t.1 in omega (arith, l), t.2))
    (λ (none : (q : ℕ) → q < p → get_or words q 0 ≢ x). dite (ℕ_discrete (get_or words p 0) x) (λ (e : get_or words p 0 ≡ x). inl (p, omega arith, e))
    (λ ne. inr (λ q l. dite (ℕ_discrete q p) (λ (s : q ≡ p). subst (λ (i : ℕ). get_or words i 0 ≢ x) (sym s) ne) (λ d. none q (below_now q p l d)))))
    (find_row words x p)
  where
    below_now : (q p : ℕ) → q < suc p → q ≢ p → q < p
    below_now q p l d = omega (arith, l, d)

one_more_of : (w k : ℕ) → w ≢ 0 → w - 1 ≡ k → w ≡ k + 1
one_more_of w k t e = omega (arith, t, e)

-- ---- the keys

keys_step : (words : List ℕ) (rows p : ℕ) → map key_of (rows_below rows words (suc p)) ≡ map key_of (rows_below rows words p) ++ map key_of (row_pair rows words p)
keys_step words rows p = map_append (rows_below rows words p) (row_pair rows words p)
  where
    map_append : (xs ys : List (ℕ × Amount)) → map key_of (xs ++ ys) ≡ map key_of xs ++ map key_of ys
    map_append [] ys = refl
    map_append (x ∷ xs) ys = λ i. x.0 ∷ map_append xs ys i

mem-append : (x : ℕ) (xs ys : List ℕ) → mem x (xs ++ ys) ≡ (mem x xs || mem x ys)
mem-append x [] ys = refl
mem-append x (y ∷ xs) ys = ap (λ (b : Bool). nat_eq y x || b) (mem-append x xs ys) ∙ sym (or_assoc (nat_eq y x) (mem x xs) (mem x ys))
  where
    or_assoc : (a b c : Bool) → ((a || b) || c) ≡ (a || (b || c))
    or_assoc true b c = refl
    or_assoc false b c = refl

either_true : (a b : Bool) → (a || b) ≡ true → (a ≡ true) ⊎ (b ≡ true)
either_true true b h = inl refl
either_true false b h = inr h

not_true : (b : Bool) → (b ≡ true → ⊥) → b ≡ false
not_true true h = absurd (h refl)
not_true false h = refl

once-snoc : (xs : List ℕ) (y : ℕ) → NoTwice xs → mem y xs ≡ false → NoTwice (xs ++ y ∷ [])
once-snoc [] y h n = (refl, tt)
once-snoc (x ∷ xs) y h n = (
  not_true (mem x (xs ++ y ∷ [])) (λ m. ⊎_elim (λ (a : mem x xs ≡ true). true≢false (sym a ∙ h.0)) (λ (b : mem x (y ∷ []) ≡ true). ⊎_elim
      (λ (e : nat_eq y x ≡ true). differs x y (mem y xs) n e) (λ (f : false ≡ true). true≢false (sym f)) (either_true (nat_eq y x) false b)) (either_true (mem x xs) (mem x (y ∷ [])) (sym (mem-append x xs (y ∷ [])) ∙ m))),
  once-snoc xs y h.1 (second (nat_eq x y) (mem y xs) n),
)
  where
    second : (a b : Bool) → (a || b) ≡ false → b ≡ false
    second true b h = absurd (true≢false h)
    second false b h = h

    first : (a b : Bool) → (a || b) ≡ false → a ≡ false
    first true b h = absurd (true≢false h)
    first false b h = refl

    differs : (x y : ℕ) (b : Bool) → (nat_eq x y || b) ≡ false → nat_eq y x ≡ true → ⊥
    differs x y b n e = dite (ℕ_discrete y x) (λ (s : y ≡ x). true≢false (sym (eq-eqb x y (sym s)) ∙ first (nat_eq x y) b n)) (λ ne. true≢false (sym e ∙ ne_eqb y x ne))

all_differ : (x : ℕ) (xs : List ℕ) → mem x xs ≡ false → AllByRecursion (λ y. nat_eq x y ≡ false) xs
all_differ x [] h = tt
all_differ x (y ∷ ys) h = (flip (nat_eq y x) (mem x ys) h, all_differ x ys (rest (nat_eq y x) (mem x ys) h))
  where
    rest : (a b : Bool) → (a || b) ≡ false → b ≡ false
    rest true b h = absurd (true≢false h)
    rest false b h = h

    flip : (a b : Bool) → (nat_eq y x || b) ≡ false → nat_eq x y ≡ false
    flip a b g = dite (ℕ_discrete x y) (λ (s : x ≡ y). absurd (true≢false (sym (ap (λ (c : Bool). c || b) (eq-eqb y x (sym s))) ∙ g))) (λ ne. ne_eqb x y ne)

distinct_of : (xs : List ℕ) → NoTwice xs → IsDistinct nat_eq xs
unfolding IsDistinct
distinct_of [] h = tt
distinct_of (x ∷ xs) h = (all_differ x xs h.0, distinct_of xs h.1)

same_flip : (x y : ℕ) → nat_eq x y ≡ nat_eq y x
same_flip x y = dite (ℕ_discrete x y) (λ (e : x ≡ y). eq-eqb x y e ∙ sym (eq-eqb y x (sym e))) (λ ne. ne_eqb x y ne ∙ sym (ne_eqb y x (λ (e : y ≡ x). ne (sym e))))

-- ---- words of lists

all_keys : (P : ℕ → Type 0) (ts : List (ℕ × Amount)) → All (λ (t : ℕ × Amount). P t.0) ts → AllByRecursion P (map key_of ts)
all_keys P [] h = tt
all_keys P (t ∷ ts) h = (h 0 t (omega arith), all_keys P ts (λ k d l. h (suc k) d (omega (arith, l))))

get_or_map : (ts : List (ℕ × Amount)) (i d : ℕ) (a : Amount) → get_or (map key_of ts) i d ≡ (get_or ts i (d, a)).0
get_or_map [] i d a = refl
get_or_map (t ∷ ts) zero d a = refl
get_or_map (t ∷ ts) (suc i) d a = get_or_map ts i d a

length_map : (ts : List (ℕ × Amount)) → length (map key_of ts) ≡ length ts
length_map [] = refl
length_map (t ∷ ts) = ap suc (length_map ts)

no_key : (key : ℕ) (xs : List ℕ) → AllByRecursion (λ k. (k == key) ≡ false) xs → list_any (λ k. k == key) xs ≡ false
no_key key [] h = refl
no_key key (x ∷ xs) h = λ i. h.0 i || no_key key xs h.1 i

any_landed : (key : ℕ) (l : List Addition) → mem key (keys_landed l) ≡ true → list_any (lands_on key) (map shown l) ≡ true
any_landed key [] h = h
any_landed key (a ∷ l) h = any_step (any_landed key l) (is_row a.landed) h
  where
    any_step : (mem key (keys_landed l) ≡ true → list_any (lands_on key) (map shown l) ≡ true) → (b : Bool) → mem key (cond b (a.job.key ∷ keys_landed l) (keys_landed l)) ≡ true → ((b && a.job.key == key) || list_any (lands_on key) (map shown l)) ≡ true
    any_step rest true g = ⊎_elim (λ (e : nat_eq a.job.key key ≡ true). ap (λ (c : Bool). c || list_any (lands_on key) (map shown l)) e) (λ (m : mem key (keys_landed l) ≡ true). or_right (a.job.key == key) (list_any (lands_on key) (map shown l)) (rest m)) (either_true (nat_eq a.job.key key) (mem key (keys_landed l)) g)
    any_step rest false g = rest g

-- a landed key has 32 bits
small_key : (rows : ℕ) (words : List ℕ) (key : ℕ) (l : List Addition) → ((i : ℕ) (a : Addition) → get_elem? l i ≡ some a → IsAdd rows words a a.landed) → mem key (keys_landed l) ≡ true → key < 2 ^ 32
small_key rows words key [] h m = absurd (true≢false (sym m))
small_key rows words key (a ∷ l) h m = small_step (small_key rows words key l (λ i x f. h (suc i) x f)) a.landed (h 0 a refl) m
  where
    small_step : (mem key (keys_landed l) ≡ true → key < 2 ^ 32) → (b : Landed) → IsAdd rows words a b → mem key (cond (is_row b) (a.job.key ∷ keys_landed l) (keys_landed l)) ≡ true → key < 2 ^ 32
    small_step rest (InRow row) g m = dite (ℕ_discrete a.job.key key)
        (λ (e : a.job.key ≡ key). subst (λ (k : ℕ). k < 2 ^ 32) e (g.0).key)
        (λ ne. rest (sym (ap (λ (b : Bool). b || mem key (keys_landed l)) (ne_eqb a.job.key key ne)) ∙ m))
    small_step rest Full g m = rest m

-- ---- totals number by number

-- a number of a total is the sum of that number over the key's amounts
part_if : (part : Amount → ℕ) → part zero_amount ≡ 0 → (b : Bool) (a : Amount) → part (amount_if b a) ≡ if_is b (part a)
part_if part none true a = refl
part_if part none false a = none

at_part : (part : Amount → ℕ) → part zero_amount ≡ 0 → ((a b : Amount) → part (plus a b) ≡ part a + part b) → (key : ℕ) (ts : List (ℕ × Amount)) → part (total_at ts key) ≡ sum_by (λ (t : ℕ × Amount). if_is (nat_eq t.0 key) (part t.1)) ts
at_part part none adds key [] = none
at_part part none adds key (t ∷ ts) =
    adds (amount_if (nat_eq t.0 key) t.1) (total_at ts key) ∙ (λ i. part_if part none (nat_eq t.0 key) t.1 i + at_part part none adds key ts i) ∙ sym (sum_by-cons (λ (t : ℕ × Amount). if_is (nat_eq t.0 key) (part t.1)) t ts)

module _ (key : ℕ) where
  at_rx_packets : (ts : List (ℕ × Amount)) → (total_at ts key).rx_packets ≡ sum_by (λ (t : ℕ × Amount). if_is (nat_eq t.0 key) t.1.rx_packets) ts
  at_rx_packets = at_part (λ a. a.rx_packets) refl (λ a b. refl) key

  at_rx_bytes : (ts : List (ℕ × Amount)) → (total_at ts key).rx_bytes ≡ sum_by (λ (t : ℕ × Amount). if_is (nat_eq t.0 key) t.1.rx_bytes) ts
  at_rx_bytes = at_part (λ a. a.rx_bytes) refl (λ a b. refl) key

  at_tx_packets : (ts : List (ℕ × Amount)) → (total_at ts key).tx_packets ≡ sum_by (λ (t : ℕ × Amount). if_is (nat_eq t.0 key) t.1.tx_packets) ts
  at_tx_packets = at_part (λ a. a.tx_packets) refl (λ a b. refl) key

  at_tx_bytes : (ts : List (ℕ × Amount)) → (total_at ts key).tx_bytes ≡ sum_by (λ (t : ℕ × Amount). if_is (nat_eq t.0 key) t.1.tx_bytes) ts
  at_tx_bytes = at_part (λ a. a.tx_bytes) refl (λ a b. refl) key

-- ---- the end

module _ (z : Plan) (s : State U View) (r : Kept z s) (id : ℕ) (v : View) (at : get_elem? s.views id ≡ some v) (sole : calls v ≡ z.calls) (rests : v.stage ≡ Idle) where
  abbrev R : ℕ
  R = z.rows

  abbrev W : List ℕ
  W = s.words

  abbrev L : List (ℕ × Amount)
  L = rows_below R W R

  away : (key : ℕ) → stands_at key v.stage ≡ 0
  away key = ap (stands_at key) rests

  -- a row that belongs to a key
  owner : (q key : ℕ) → q < R → get_or W q 0 ≡ code key → (turn : ℕ) × (At R W key turn × (spot R key turn ≡ q))
  owner q key inside is = let taken : get_or W q 0 ≢ 0 = λ e. let f : code key ≡ 0 = sym is ∙ e in omega (arith, f) in let o = r.owned q inside taken in
      let c : code o.key ≡ code key = sym (o.at).is ∙ (ap (λ (p : ℕ). get_or W p 0) o.here ∙ is) in let k : o.key ≡ key = omega (arith, c) in
      (o.turn, (subst (λ (x : ℕ). At R W x o.turn) k o.at, subst (λ (x : ℕ). spot R x o.turn ≡ q) k o.here))

  other_keys : (q key : ℕ) → q < R → get_or W q 0 ≡ code key → (i : ℕ) → i < R → i ≢ q → get_or W i 0 ≢ code key
  other_keys q key inside is i i_in ne e = dite (dec_le i q)
      (λ (le : i ≤ q). apart z s r id v at sole away i q (omega (arith, le, ne)) inside (λ f. let g : code key ≡ 0 = sym e ∙ f in omega (arith, g)) (e ∙ sym is))
      (λ more. apart z s r id v at sole away q i (lt_of_not-le more) i_in (λ f. let g : code key ≡ 0 = sym is ∙ f in omega (arith, g)) (is ∙ sym e))

  pub sum_rows : (key c : ℕ) (pick : Amount → ℕ) → c < 4 → ((p : ℕ) → pick (row_amount R W p) ≡ get_or W (R + 4 * p + c) 0) → sum_by (λ (t : ℕ × Amount). if_is (nat_eq t.0 key) (pick t.1)) L ≡ added key c v.adds
  sum_rows key c pick low h = ⊎_elim
      (λ (t : (q : ℕ) × (q < R) × (get_or W q 0 ≡ code key)). let o = owner t.0 key t.1 t.2 in
      one_row R W key pick R t.0 (added key c v.adds) t.1 t.2 (other_keys t.0 key t.1 t.2)
      (h t.0 ∙ ap (λ (q : ℕ). get_or W (R + 4 * q + c) 0) (sym o.1.1) ∙ r.sums key o.0 c o.1.0 low ∙ sole_has_all z s r id v at sole key c (ap (under_way key c) rests)))
      (λ (none : (q : ℕ) → q < R → get_or W q 0 ≢ code key). no_row R W key pick R none
      ∙ sym (none_added R W key c (λ u a. none (spot R key u) (place_below (code key) u R a.inside) a.is) v.adds (r.each_seat id v at).adds))
      (find_row W (code key) R)

  -- a row's word holds a key of 32 bits
  pub word_small : (p : ℕ) → p < R → get_or W p 0 ≤ 2 ^ 32
  word_small p inside = dite (ℕ_discrete (get_or W p 0) 0) (λ (free : get_or W p 0 ≡ 0). omega (arith, free))
      (λ taken. let o = owner p (get_or W p 0 - 1) inside (again (get_or W p 0) taken) in
      let small : get_or W p 0 - 1 < 2 ^ 32 = small_key R W (get_or W p 0 - 1) v.adds (r.each_seat id v at).adds (row_landed z s r id v at sole away (get_or W p 0 - 1) o.0 o.1.0) in omega (arith, small, taken))
    where
      again : (w : ℕ) → w ≢ 0 → w ≡ (w - 1) + 1
      again w t = omega (arith, t)

  -- ---- the keys are distinct

  keys_from : (p : ℕ) → p ≤ R → (x : ℕ) → mem x (map key_of (rows_below R W p)) ≡ true → (q : ℕ) × ((q < p) × (get_or W q 0 ≡ code x))
  keys_from zero le x m = absurd (true≢false (sym m))
  keys_from (suc p) le x m = ⊎_elim
      (λ (a : mem x (map key_of (rows_below R W p)) ≡ true). let t = keys_from p (omega (arith, le)) x a in (t.0, (let l = t.1.0 in omega (arith, l), t.1.1)))
      (λ (b : mem x (map key_of (row_pair R W p)) ≡ true). (p, (omega arith, pair_key b)))
      (either_true (mem x (map key_of (rows_below R W p))) (mem x (map key_of (row_pair R W p))) (sym (ap (mem x) (keys_step W R p) ∙ mem-append x (map key_of (rows_below R W p)) (map key_of (row_pair R W p))) ∙ m))
    where
      pair_key : mem x (map key_of (row_pair R W p)) ≡ true → get_or W p 0 ≡ code x
      pair_key b = dite (ℕ_discrete (get_or W p 0) 0)
          (λ (free : get_or W p 0 ≡ 0). absurd (true≢false (sym b ∙ ap (λ (f : Bool). mem x (map key_of (cond f [] ((get_or W p 0 - 1, row_amount R W p) ∷ [])))) (eq-eqb (get_or W p 0) 0 free))))
          (λ taken. let g : (nat_eq (get_or W p 0 - 1) x || false) ≡ true = sym (ap (λ (f : Bool). mem x (map key_of (cond f [] ((get_or W p 0 - 1, row_amount R W p) ∷ [])))) (ne_eqb (get_or W p 0) 0 taken)) ∙ b in
          dite (ℕ_discrete (get_or W p 0 - 1) x) (λ (e : get_or W p 0 - 1 ≡ x). one_more_of (get_or W p 0) x taken e)
          (λ ne. absurd (true≢false (sym g ∙ ap (λ (f : Bool). f || false) (ne_eqb (get_or W p 0 - 1) x ne)))))

  keys_once : (p : ℕ) → p ≤ R → NoTwice (map key_of (rows_below R W p))
  keys_once zero le = tt
  keys_once (suc p) le = subst NoTwice (sym (keys_step W R p)) (dite (ℕ_discrete (get_or W p 0) 0)
      (λ (free : get_or W p 0 ≡ 0). subst (λ (b : Bool). NoTwice (map key_of (rows_below R W p) ++ map key_of (cond b [] ((get_or W p 0 - 1, row_amount R W p) ∷ [])))) (sym (eq-eqb (get_or W p 0) 0 free))
      (subst NoTwice (sym (append_none (map key_of (rows_below R W p)))) (keys_once p (omega (arith, le)))))
      (λ taken. subst (λ (b : Bool). NoTwice (map key_of (rows_below R W p) ++ map key_of (cond b [] ((get_or W p 0 - 1, row_amount R W p) ∷ [])))) (sym (ne_eqb (get_or W p 0) 0 taken))
      (once-snoc (map key_of (rows_below R W p)) (get_or W p 0 - 1) (keys_once p (omega (arith, le)))
      (not_true (mem (get_or W p 0 - 1) (map key_of (rows_below R W p))) (λ m. let t = keys_from p (omega (arith, le)) (get_or W p 0 - 1) m in
      let same : get_or W t.0 0 ≡ get_or W p 0 = back (get_or W t.0 0) (get_or W p 0) taken t.1.1 in
      apart z s r id v at sole away t.0 p t.1.0 (omega (arith, le)) (λ e. taken (sym same ∙ e)) same)))))
    where
      append_none : (xs : List ℕ) → xs ++ [] ≡ xs
      append_none [] = refl
      append_none (x ∷ xs) = ap (λ (ys : List ℕ). x ∷ ys) (append_none xs)

      back : (a w : ℕ) → w ≢ 0 → a ≡ (w - 1) + 1 → a ≡ w
      back a w t e = omega (arith, t, e)

  -- ---- each key landed

  keys_landed_all : (p : ℕ) → p ≤ R → AllByRecursion (λ (t : ℕ × Amount). list_any (lands_on t.0) (map shown v.adds) ≡ true) (rows_below R W p)
  keys_landed_all zero le = tt
  keys_landed_all (suc p) le = all-append (λ (t : ℕ × Amount). list_any (lands_on t.0) (map shown v.adds) ≡ true) (rows_below R W p) (row_pair R W p) (keys_landed_all p (omega (arith, le))) (dite (ℕ_discrete (get_or W p 0) 0)
      (λ (free : get_or W p 0 ≡ 0). subst (λ (b : Bool). AllByRecursion (λ (t : ℕ × Amount). list_any (lands_on t.0) (map shown v.adds) ≡ true) (cond b [] ((get_or W p 0 - 1, row_amount R W p) ∷ []))) (sym (eq-eqb (get_or W p 0) 0 free)) tt)
      (λ taken. let o = owner p (get_or W p 0 - 1) (omega (arith, le)) (again (get_or W p 0) taken) in
      subst (λ (b : Bool). AllByRecursion (λ (t : ℕ × Amount). list_any (lands_on t.0) (map shown v.adds) ≡ true) (cond b [] ((get_or W p 0 - 1, row_amount R W p) ∷ []))) (sym (ne_eqb (get_or W p 0) 0 taken))
      (any_landed (get_or W p 0 - 1) v.adds (row_landed z s r id v at sole away (get_or W p 0 - 1) o.0 o.1.0), tt)))
    where
      again : (w : ℕ) → w ≢ 0 → w ≡ (w - 1) + 1
      again w t = omega (arith, t)

  -- ---- an add that found no room

  all_there : ((q : ℕ) → q < R → get_or W q 0 ≢ 0) → (p : ℕ) → p ≤ R → length (rows_below R W p) ≡ p
  all_there taken zero le = refl
  all_there taken (suc p) le = length-append (rows_below R W p) (row_pair R W p) ∙ one_longer (length (rows_below R W p)) (length (row_pair R W p)) p (all_there taken p (omega (arith, le)))
      (ap (λ (b : Bool). length {A = ℕ × Amount} (cond b [] ((get_or W p 0 - 1, row_amount R W p) ∷ []))) (ne_eqb (get_or W p 0) 0 (taken p (omega (arith, le)))))
    where
      one_longer : (a b p : ℕ) → a ≡ p → b ≡ 1 → a + b ≡ suc p
      one_longer a b p e f = omega (arith, e, f)

  not_among : (key : ℕ) → ((q : ℕ) → q < R → get_or W q 0 ≢ code key) → (p : ℕ) → p ≤ R → AllByRecursion (λ (t : ℕ × Amount). (t.0 == key) ≡ false) (rows_below R W p)
  not_among key none zero le = tt
  not_among key none (suc p) le = all-append (λ (t : ℕ × Amount). (t.0 == key) ≡ false) (rows_below R W p) (row_pair R W p) (not_among key none p (omega (arith, le))) (dite (ℕ_discrete (get_or W p 0) 0)
      (λ (free : get_or W p 0 ≡ 0). subst (λ (b : Bool). AllByRecursion (λ (t : ℕ × Amount). (t.0 == key) ≡ false) (cond b [] ((get_or W p 0 - 1, row_amount R W p) ∷ []))) (sym (eq-eqb (get_or W p 0) 0 free)) tt)
      (λ taken. subst (λ (b : Bool). AllByRecursion (λ (t : ℕ × Amount). (t.0 == key) ≡ false) (cond b [] ((get_or W p 0 - 1, row_amount R W p) ∷ []))) (sym (ne_eqb (get_or W p 0) 0 taken))
      (ne_eqb (get_or W p 0 - 1) key (λ (e : get_or W p 0 - 1 ≡ key). none p (omega (arith, le)) (again (get_or W p 0) key taken e)), tt)))
    where
      again : (w k : ℕ) → w ≢ 0 → w - 1 ≡ k → w ≡ k + 1
      again w k t e = omega (arith, t, e)

  module _ (T : List (ℕ × Amount)) (perm : IsPermutation L T) (sorted : IsNonDecreasingBy key_of T) where
    abbrev IsShown : Add → Type 0
    IsShown a = a.landed ≡ false → (length T ≡ R) × (has_key T a.key ≡ false)

    missed_shown : (key : ℕ) → AllDecided R W key R → (length T ≡ R) × (has_key T key ≡ false)
    missed_shown key all = let every : (q : ℕ) → q < R → (get_or W q 0 ≢ 0) × (get_or W q 0 ≢ code key) = λ q l. let t = place-surjective (code key) 1 q R l in
        subst (λ (p : ℕ). (get_or W p 0 ≢ 0) × (get_or W p 0 ≢ code key)) t.2 (all t.0 t.1) in (
          length_permutation L T perm ∙ all_there (λ q l. (every q l).0) R (omega arith),
          no_key key (map key_of T) (all_keys (λ k. (k == key) ≡ false) T (All-permutation (λ (t : ℕ × Amount). (t.0 == key) ≡ false) L T perm (all_at (λ (t : ℕ × Amount). (t.0 == key) ≡ false) L (not_among key (λ q l. (every q l).1) R (omega arith))))),
        )

    full_shown_all : (l : List Addition) → ((i : ℕ) (a : Addition) → get_elem? l i ≡ some a → IsAdd R W a a.landed) → AllByRecursion IsShown (map shown l)
    full_shown_all [] h = tt
    full_shown_all (a ∷ l) h = (missed a.landed (h 0 a refl), full_shown_all l (λ i x e. h (suc i) x e))
      where
        missed : (b : Landed) → IsAdd R W a b → is_row b ≡ false → (length T ≡ R) × (has_key T a.job.key ≡ false)
        missed (InRow row) add e = absurd (true≢false e)
        missed Full add e = missed_shown a.job.key add.1

    pub are_totals : AreTotals R (map shown v.adds) T
    are_totals = record {
      amounts = λ key. amount_is (total_at T key).rx_packets (total_at T key).rx_bytes (total_at T key).tx_packets (total_at T key).tx_bytes (total_of (map shown v.adds) key)
          (at_rx_packets key T ∙ sum_by-IsPermutation (λ (t : ℕ × Amount). if_is (nat_eq t.0 key) t.1.rx_packets) L T perm ∙ sum_rows key 0 (λ (a : Amount). a.rx_packets) (omega arith) (λ p. refl) ∙ sym (total_rx_packets key v.adds))
          (at_rx_bytes key T ∙ sum_by-IsPermutation (λ (t : ℕ × Amount). if_is (nat_eq t.0 key) t.1.rx_bytes) L T perm ∙ sum_rows key 1 (λ (a : Amount). a.rx_bytes) (omega arith) (λ p. refl) ∙ sym (total_rx_bytes key v.adds))
          (at_tx_packets key T ∙ sum_by-IsPermutation (λ (t : ℕ × Amount). if_is (nat_eq t.0 key) t.1.tx_packets) L T perm ∙ sum_rows key 2 (λ (a : Amount). a.tx_packets) (omega arith) (λ p. refl) ∙ sym (total_tx_packets key v.adds))
          (at_tx_bytes key T ∙ sum_by-IsPermutation (λ (t : ℕ × Amount). if_is (nat_eq t.0 key) t.1.tx_bytes) L T perm ∙ sum_rows key 3 (λ (a : Amount). a.tx_bytes) (omega arith) (λ p. refl) ∙ sym (total_tx_bytes key v.adds));
      ascend = sorted_from_strictly_increasing (map key_of T) (IsStrictlyIncreasing-from_distinct (map key_of T)
          (λ i j d le l. rise i j d le (subst (λ (n : ℕ). j < n) (length_map T) l))
          (IsDistinct-IsPermutation nat_eq same_flip (map key_of L) (map key_of T) (IsPermutation-map key_of L T perm) (distinct_of (map key_of L) (keys_once R (omega arith)))));
      landed = all_keys (λ key. list_any (lands_on key) (map shown v.adds) ≡ true) T (All-permutation (λ (t : ℕ × Amount). list_any (lands_on t.0) (map shown v.adds) ≡ true) L T perm (all_at (λ (t : ℕ × Amount). list_any (lands_on t.0) (map shown v.adds) ≡ true) L (keys_landed_all R (omega arith))));
      full = full_shown_all v.adds (r.each_seat id v at).adds;
    }
      where
        nothing : Amount
        nothing = record { rx_packets = 0; rx_bytes = 0; tx_packets = 0; tx_bytes = 0 }

        rise : (i j d : ℕ) → i ≤ j → j < length T → get_or (map key_of T) i d ≤ get_or (map key_of T) j d
        rise i j d le l = subst (λ (x : ℕ × ℕ). x.0 ≤ x.1) (λ k. (sym (get_or_map T i d nothing) k, sym (get_or_map T j d nothing) k)) (sorted i j (d, nothing) le l)

-- What the end of the table tells of its words.
pub record IsEnd (plan : Plan) (v : View) (words : List ℕ) : Type 0 where
  pub sole : calls v ≡ plan.calls
  pub keys : AreKeys plan.rows words
  pub totals : (T : List (ℕ × Amount)) → IsPermutation (rows_below plan.rows words plan.rows) T → IsNonDecreasingBy key_of T → AreTotals plan.rows (map shown v.adds) T

both_ways : (a b t : ℕ) → a ≤ t → t ≡ b → b ≤ a → a ≡ b
both_ways a b t h e i = omega (arith, h, e, i)

pub end_is : (z plan : Plan) (words : List ℕ) (slots : List U) (id : ℕ) (v : View) → z ≡ plan → Final (Seen (Kept z) id v) words slots → plan.calls ≤ calls v → v.stage ≡ Idle → IsEnd plan v words
end_is z plan words slots id v same f all rests = let s = f.0 in let r = f.1.0 in let at = f.1.1 in
    let all' : z.calls ≤ calls v = subst (λ (x : Plan). x.calls ≤ calls v) (sym same) all in
    let sole : calls v ≡ z.calls = both_ways (calls v) z.calls (sum_by calls s.views) (in_sum calls s.views id v at) r.budget all' in
    subst (λ (x : Plan × List ℕ). IsEnd x.0 v x.1) (λ i. (same i, f.2 i)) record {
      sole = sole;
      keys = word_small z s r id v at sole rests;
      totals = λ T perm sorted. are_totals z s r id v at sole rests T perm sorted;
    }
