-- The keys on which adds landed, as contracts list them, and the rows in which they landed.
use Rattle.std.proofs.Common.{◌≡◌, ℕ, zero, suc, ◌<◌, Bool, true, false, ◌||◌, nat_eq, nat_lt, cond, List, [], ◌∷◌, ◌++◌, length, get_or, map, refl, sym, ap, ◌∙◌, subst, arith}
use Rattle.std.specs.Prelude.{◌↔◌, filter}
use Rattle.std.specs.List.{All, AllByRecursion}
use Rattle.std.specs.List.Sorted.{IsStrictlySortedBy}
use Rattle.std.specs.Ordering.{nat_cmp}
use Rattle.std.proofs.lemmas.Grind.{flat_map-append}
use mathlib.Core.Option.{some}
use lib.ListN.{get_elem?}
use Rattle.acct_base.specs.declared.charge.Landed.{Landed}
use Rattle.acct_base.specs.declared.charge.Landed.TheVariants.{Row as InRow, Full}
use Rattle.acct_base.specs.Distinct.{mem, distinct, NoTwice}
use Rattle.acct_base.specs.Landings.{is_row, landed_keys, same_number, add_lands}
use Rattle.acct_base.specs.Receipts.{Add}
use Rattle.acct_base.proofs.DistinctLemmas.{distinct_is}
use Rattle.acct_base.proofs.Keys.{has, head_fresh, ascending_has, ascending_sorted, nat_agree}
use Rattle.acct_base.proofs.Members.{or_right}
use Rattle.total_rows.specs.declared.plan.Addition.{Addition}
use Rattle.total_rows.specs.Rows.{spot, At}
use Rattle.total_rows.specs.Rule.{IsAdd}
use Rattle.total_rows.specs.Seats.{placed, IsOneToOne}
use Rattle.total_rows.specs.Shown.{shown, places_of}
use Rattle.total_rows.proofs.Spots.{same_code, at_once}

-- the keys of the adds that landed, in their order
abbrev pub keys_landed : List Addition → List ℕ
keys_landed [] = []
keys_landed (a ∷ rest) = cond (is_row a.landed) (a.job.key ∷ keys_landed rest) (keys_landed rest)

-- ---- contracts list these keys ascending, each once

mem_has : (x : ℕ) (ks : List ℕ) → mem x ks ≡ has same_number ks x
mem_has x [] = refl
mem_has x (k ∷ ks) = ap (λ (b : Bool). nat_eq k x || b) (mem_has x ks)

listed : (key : ℕ) (l : List Addition) → has same_number (map (λ (a : Add). a.key) (filter (λ (a : Add). a.landed) (map shown l))) key ≡ mem key (keys_landed l)
listed key [] = refl
listed key (a ∷ l) = listed_step (filter (λ (a : Add). a.landed) (map shown l)) (listed key l) (is_row a.landed)
  where
    listed_step : (rest : List Add) → has same_number (map (λ (a : Add). a.key) rest) key ≡ mem key (keys_landed l) → (b : Bool) → has same_number (map (λ (a : Add). a.key) (cond b (shown a ∷ rest) rest)) key ≡ mem key (cond b (a.job.key ∷ keys_landed l) (keys_landed l))
    listed_step rest e true = ap (λ (b : Bool). nat_eq a.job.key key || b) e
    listed_step rest e false = e

same_members : (key : ℕ) (l : List Addition) → has same_number (landed_keys (map shown l)) key ≡ mem key (keys_landed l)
same_members key l = ascending_has nat_cmp same_number nat_agree (map (λ (a : Add). a.key) (filter (λ (a : Add). a.landed) (map shown l))) key ∙ listed key l

once : (ks : List ℕ) → IsStrictlySortedBy nat_cmp ks → NoTwice ks
unfolding IsStrictlySortedBy
once [] h = tt
once (k ∷ ks) h = (mem_has k ks ∙ head_fresh nat_cmp same_number nat_agree k ks h.0, once ks h.1)

as_many : (l : List Addition) → length (landed_keys (map shown l)) ≡ distinct (keys_landed l)
as_many l = let ks = landed_keys (map shown l) in
    sym (distinct_is ks (keys_landed l) (once ks (ascending_sorted nat_cmp same_number nat_agree (map (λ (a : Add). a.key) (filter (λ (a : Add). a.landed) (map shown l)))))
    (λ x m. mem_has x ks ∙ same_members x l ∙ m) (λ x m. sym (same_members x l) ∙ sym (mem_has x ks) ∙ m))

-- ---- where an add lands

below_true : (a b : ℕ) → a < b → nat_lt a b ≡ true
below_true a b h = grind (arith, h)

below_false : (a b : ℕ) → a ≡ b → nat_lt a b ≡ false
below_false a b e = grind (arith, e)

pub own_lands : (rows key : ℕ) (l : List Addition) → mem key (keys_landed l) ≡ true → add_lands rows (map shown l) key ≡ true
own_lands rows key l m = ap (λ (b : Bool). b || nat_lt (length (landed_keys (map shown l))) rows) (same_members key l ∙ m)

pub free_lands : (rows key : ℕ) (l : List Addition) → distinct (keys_landed l) < rows → add_lands rows (map shown l) key ≡ true
free_lands rows key l few = or_right (has same_number (landed_keys (map shown l)) key) (nat_lt (length (landed_keys (map shown l))) rows)
    (below_true (length (landed_keys (map shown l))) rows (subst (λ (n : ℕ). n < rows) (sym (as_many l)) few))

pub full_misses : (rows key : ℕ) (l : List Addition) → distinct (keys_landed l) ≡ rows → mem key (keys_landed l) ≡ false → add_lands rows (map shown l) key ≡ false
full_misses rows key l all none = ap (λ (b : Bool). b || nat_lt (length (landed_keys (map shown l))) rows) (same_members key l ∙ none)
    ∙ below_false (length (landed_keys (map shown l))) rows (as_many l ∙ all)

-- ---- words of lists

pub all_at : {X : Type 0} (P : X → Type 0) (xs : List X) → AllByRecursion P xs → All P xs
all_at P [] h k d l = absurd (omega (arith, l))
all_at P (x ∷ xs) h zero d l = h.0
all_at P (x ∷ xs) h (suc k) d l = all_at P xs h.1 k d (omega (arith, l))

pub all-append : {X : Type 0} (P : X → Type 0) (xs ys : List X) → AllByRecursion P xs → AllByRecursion P ys → AllByRecursion P (xs ++ ys)
all-append P [] ys h k = k
all-append P (x ∷ xs) ys h k = (h.0, all-append P xs ys h.1 k)

-- ---- all adds of a key landed in its row

pub places-append : (xs ys : List Addition) → places_of (xs ++ ys) ≡ places_of xs ++ places_of ys
places-append xs ys = flat_map-append (λ (a : Addition). placed a.job.key a.landed) xs ys

pub places-snoc : (xs : List Addition) (a : Addition) → places_of (xs ++ a ∷ []) ≡ places_of xs ++ placed a.job.key a.landed
places-snoc xs a = places-append xs (a ∷ []) ∙ ap (λ (l : List (ℕ × ℕ)). places_of xs ++ l) (last (placed a.job.key a.landed))
  where
    last : (l : List (ℕ × ℕ)) → l ++ [] ≡ l
    last [] = refl
    last (p ∷ l) = ap (λ (k : List (ℕ × ℕ)). p ∷ k) (last l)

module _ (rows : ℕ) (words : List ℕ) where
  abbrev HasRow : ℕ × ℕ → Type 0
  HasRow p = (turn : ℕ) × At rows words p.0 turn × (spot rows p.0 turn ≡ p.1)

  has_row : (a : Addition) (b : Landed) → IsAdd rows words a b → AllByRecursion HasRow (placed a.job.key b)
  has_row a (InRow row) h = ((h.1.0, h.1.1, h.1.2), tt)
  has_row a Full h = tt

  have_rows : (l : List Addition) → ((i : ℕ) (a : Addition) → get_elem? l i ≡ some a → IsAdd rows words a a.landed) → AllByRecursion HasRow (places_of l)
  have_rows [] h = tt
  have_rows (a ∷ l) h = all-append HasRow (placed a.job.key a.landed) (places_of l) (has_row a a.landed (h 0 a refl)) (have_rows l (λ i x e. h (suc i) x e))

  agree : (p q : ℕ × ℕ) → HasRow p → HasRow q → (p.0 ≡ q.0) ↔ (p.1 ≡ q.1)
  agree p q a b = (
    λ (e : p.0 ≡ q.0). let t : a.0 ≡ b.0 = at_once rows words q.0 a.0 b.0 (subst (λ (k : ℕ). At rows words k a.0) e a.1) b.1 in sym a.2 ∙ ((λ i. spot rows (e i) (t i)) ∙ b.2),
    λ (e : p.1 ≡ q.1). same_code p.0 q.0 (sym (a.1).is ∙ (ap (λ (r : ℕ). get_or words r 0) (a.2 ∙ (e ∙ sym b.2)) ∙ (b.1).is)),
  )

  pub one_to_one : (l : List Addition) → ((i : ℕ) (a : Addition) → get_elem? l i ≡ some a → IsAdd rows words a a.landed) → IsOneToOne (places_of l)
  one_to_one l h i j d less inside = let all : All HasRow (places_of l) = all_at HasRow (places_of l) (have_rows l h) in
      agree (get_or (places_of l) i d) (get_or (places_of l) j d) (all i d (omega (arith, less, inside))) (all j d inside)
