-- Ascending lists of keys: what inserting keeps, and that two with the same members are equal.
use Rattle.std.proofs.Common.{◌≡◌, ℕ, suc, ◌≤◌, List, [], ◌∷◌, ◌++◌, length, refl, sym, ap, subst, ◌∙◌, arith, Bool, true, false}
use Rattle.std.specs.Prelude.{◌==◌, ◌||◌, fold}
use Rattle.std.specs.List.{AllByRecursion, list_any, IsDistinct}
use Rattle.std.specs.List.Sorted.{IsStrictlySortedBy}
use Rattle.std.specs.Cmp.{IsTotalOrder}
use Rattle.std.specs.declared.cmp.Ordering.{Ordering}
use Rattle.std.specs.declared.cmp.Ordering.TheVariants.{Less, Equal, Greater}
use Rattle.std.specs.Ordering.{match_ordering, ordering_then, ordering_reverse, nat_cmp}
use Rattle.std.proofs.lemmas.Bool.{and_parts, or_cases, or_parts}
use Rattle.std.proofs.lemmas.Cmp.{nat_cmp_total, then_total}
use Rattle.std.proofs.lemmas.Grind.{fold-append}
use mathlib.Core.Logic.{◌⊎◌, inl, inr}
use Rattle.acct_base.specs.declared.amount.Amount.{Amount}
use Rattle.acct_base.specs.declared.label.Label.{Label}
use Rattle.acct_base.specs.Amounts.{same_label, label_cmp, plus, zero_amount, total_by, amount_if}
use Rattle.acct_base.specs.Ordered.{insert_once, ascending}
use Rattle.acct_base.specs.Landings.{same_number}
use Rattle.acct_base.proofs.SumLemmas.{zero_plus, plus_comm}

-- an order and a test that agree
pub record Agree {K : Type 0} (R : K → K → Ordering) (eq : K → K → Bool) : Type 0 where
  pub total : IsTotalOrder R
  pub ties : (x y : K) → R x y ≡ Equal → x ≡ y
  pub same : (x y : K) → eq x y ≡ true → x ≡ y
  pub self : (x : K) → eq x x ≡ true

abbrev pub has : {K : Type 0} → (K → K → Bool) → List K → K → Bool
has eq xs z = list_any (λ k. eq k z) xs

or_mid : (a b c : Bool) → (a || (b || c)) ≡ ((b || a) || c)
or_mid true true c = refl
or_mid true false c = refl
or_mid false true c = refl
or_mid false false c = refl

or_none : (a : Bool) → (a || false) ≡ a
or_none true = refl
or_none false = refl

pub or_true : (a : Bool) → (a || true) ≡ true
or_true true = refl
or_true false = refl

pub plus_zero : (a : Amount) → plus a zero_amount ≡ a
plus_zero a = plus_comm a zero_amount ∙ zero_plus a

pub decided : (b : Bool) → (b ≡ true) ⊎ (b ≡ false)
decided true = inl refl
decided false = inr refl

-- what is below the first of an ascending list is below all of it
pub below_all : {K : Type 0} (R : K → K → Ordering) → IsTotalOrder R → (x y : K) (ys : List K) → R x y ≡ Less → AllByRecursion (λ z. R y z ≡ Less) ys → AllByRecursion (λ z. R x z ≡ Less) ys
below_all R total x y [] e a = tt
below_all R total x y (z ∷ zs) e a = (total.trans x y z e a.0, below_all R total x y zs e a.1)

module _ {K : Type 0} (R : K → K → Ordering) (eq : K → K → Bool) (h : Agree R eq) where
  pub all_has : (P : K → Type 0) (xs : List K) (z : K) → AllByRecursion P xs → has eq xs z ≡ true → P z
  all_has P [] z a e = absurd (cc)
  all_has P (x ∷ xs) z a e = elim (or_cases (eq x z) (has eq xs z) e) [
    | inl here ↦ subst P (h.same x z here) a.0
    | inr there ↦ all_has P xs z a.1 there
  ]

  irreflexive : (x : K) → R x x ≡ Less → ⊥
  irreflexive x e =
      let flipped : R x x ≡ ordering_reverse (R x x) = h.total.antisymm x x in
      let both : Less ≡ Greater = sym e ∙ flipped ∙ ap ordering_reverse e in
      absurd (cc)

  asymmetric : (x y : K) → R x y ≡ Less → R y x ≡ Less → ⊥
  asymmetric x y a b = irreflexive x (h.total.trans x y x a b)

  pub head_fresh : (x : K) (xs : List K) → AllByRecursion (λ y. R x y ≡ Less) xs → has eq xs x ≡ false
  head_fresh x xs a = elim (decided (has eq xs x)) [
    | inl there ↦ absurd (irreflexive x (all_has (λ y. R x y ≡ Less) xs x a there))
    | inr none ↦ none
  ]

  pub unique : (xs ys : List K) → IsStrictlySortedBy R xs → IsStrictlySortedBy R ys → ((z : K) → has eq xs z ≡ has eq ys z) → xs ≡ ys
  unfolding IsStrictlySortedBy
  unique [] [] a b m = refl
  unique [] (y ∷ ys) a b m = absurd (let here : true ≡ false = sym (ap (λ t. t || has eq ys y) (h.self y)) ∙ sym (m y) in cc)
  unique (x ∷ xs) [] a b m = absurd (let here : true ≡ false = sym (ap (λ t. t || has eq xs x) (h.self x)) ∙ m x in cc)
  unique (x ∷ xs) (y ∷ ys) a b m =
      let in_ys : has eq (y ∷ ys) x ≡ true = sym (m x) ∙ ap (λ t. t || has eq xs x) (h.self x) in
      let in_xs : has eq (x ∷ xs) y ≡ true = m y ∙ ap (λ t. t || has eq ys y) (h.self y) in
      let first : x ≡ y = elim (or_cases (eq y x) (has eq ys x) in_ys) [
        | inl here ↦ sym (h.same y x here)
        | inr there ↦ elim (or_cases (eq x y) (has eq xs y) in_xs) [
          | inl here ↦ h.same x y here
          | inr back ↦ absurd (asymmetric x y (all_has (λ z. R x z ≡ Less) xs y a.0 back) (all_has (λ z. R y z ≡ Less) ys x b.0 there))
        ]
      ] in
      let tails : (z : K) → has eq xs z ≡ has eq ys z = λ z. elim (decided (eq x z)) [
        | inl here ↦
            let z_is : x ≡ z = h.same x z here in
            let left : has eq xs z ≡ false = subst (λ (w : K). has eq xs w ≡ false) z_is (head_fresh x xs a.0) in
            let right : has eq ys z ≡ false = subst (λ (w : K). has eq ys w ≡ false) (sym first ∙ z_is) (head_fresh y ys b.0) in
            left ∙ sym right
        | inr none ↦
            let other : eq y z ≡ false = subst (λ (w : K). eq w z ≡ false) first none in
            sym (ap (λ t. t || has eq xs z) none) ∙ m z ∙ ap (λ t. t || has eq ys z) other
      ] in
      λ i. first i ∷ unique xs ys a.1 b.1 tails i

  -- what ascending keeps
  or_swap : (a b c : Bool) → (a || (b || c)) ≡ (b || (a || c))
  or_swap true true c = refl
  or_swap true false c = refl
  or_swap false b c = refl

  or_twice : (a c : Bool) → (a || (a || c)) ≡ (a || c)
  or_twice true c = refl
  or_twice false c = refl

  pub inserted_has : (ys : List K) (x z : K) → has eq (insert_once R ys x) z ≡ (eq x z || has eq ys z)
  inserted_has [] x z = refl
  inserted_has (y ∷ ys) x z =
      let place : (o : Ordering) → R x y ≡ o → has eq (match_ordering o (x ∷ y ∷ ys) (y ∷ ys) (y ∷ insert_once R ys x)) z ≡ (eq x z || (eq y z || has eq ys z)) = λ o. elim o as (λ o. R x y ≡ o →
      has eq (match_ordering o (x ∷ y ∷ ys) (y ∷ ys) (y ∷ insert_once R ys x)) z ≡ (eq x z || (eq y z || has eq ys z))) [
        | Less ↦ λ e. refl
        | Equal ↦ λ e. sym (ap (λ (w : K). eq w z || (eq y z || has eq ys z)) (h.ties x y e) ∙ or_twice (eq y z) (has eq ys z))
        | Greater ↦ λ e. ap (λ t. eq y z || t) (inserted_has ys x z) ∙ or_swap (eq y z) (eq x z) (has eq ys z)
      ] in
      place (R x y) refl

  pub inserted_all : (P : K → Type 0) (ys : List K) (x : K) → P x → AllByRecursion P ys → AllByRecursion P (insert_once R ys x)
  inserted_all P [] x p a = (p, tt)
  inserted_all P (y ∷ ys) x p a = elim (R x y) as (λ o. AllByRecursion P (match_ordering o (x ∷ y ∷ ys) (y ∷ ys) (y ∷ insert_once R ys x))) [
    | Less ↦ (p, a)
    | Equal ↦ a
    | Greater ↦ (a.0, inserted_all P ys x p a.1)
  ]

  pub inserted_sorted : (ys : List K) (x : K) → IsStrictlySortedBy R ys → IsStrictlySortedBy R (insert_once R ys x)
  unfolding IsStrictlySortedBy
  inserted_sorted [] x a = (tt, tt)
  inserted_sorted (y ∷ ys) x a =
      let place : (o : Ordering) → R x y ≡ o → IsStrictlySortedBy R (match_ordering o (x ∷ y ∷ ys) (y ∷ ys) (y ∷ insert_once R ys x)) = λ o. elim o as (λ o. R x y ≡ o →
      IsStrictlySortedBy R (match_ordering o (x ∷ y ∷ ys) (y ∷ ys) (y ∷ insert_once R ys x))) [
        | Less ↦ λ e. ((e, below_all R h.total x y ys e a.0), a)
        | Equal ↦ λ e. a
        | Greater ↦ λ e. (inserted_all (λ z. R y z ≡ Less) ys x (h.total.antisymm y x ∙ ap ordering_reverse e) a.0, inserted_sorted ys x a.1)
      ] in
      place (R x y) refl

  fold_has : (from xs : List K) (z : K) → has eq (fold (insert_once R) from xs) z ≡ (has eq xs z || has eq from z)
  fold_has from [] z = refl
  fold_has from (x ∷ xs) z = fold_has (insert_once R from x) xs z ∙ ap (λ t. has eq xs z || t) (inserted_has from x z) ∙ or_mid (has eq xs z) (eq x z) (has eq from z)

  pub fold_sorted : (from xs : List K) → IsStrictlySortedBy R from → IsStrictlySortedBy R (fold (insert_once R) from xs)
  fold_sorted from [] a = a
  fold_sorted from (x ∷ xs) a = fold_sorted (insert_once R from x) xs (inserted_sorted from x a)

  pub ascending_has : (xs : List K) (z : K) → has eq (ascending R xs) z ≡ has eq xs z
  ascending_has xs z = fold_has [] xs z ∙ or_none (has eq xs z)

  pub ascending_sorted : (xs : List K) → IsStrictlySortedBy R (ascending R xs)
  unfolding IsStrictlySortedBy
  ascending_sorted xs = fold_sorted [] xs tt

  -- an item that stands there is not inserted again
  none_before : (x y : K) (ys : List K) → R x y ≡ Less → AllByRecursion (λ z. R y z ≡ Less) ys → has eq (y ∷ ys) x ≡ true → ⊥
  none_before x y ys e a there = irreflexive x (all_has (λ z. R x z ≡ Less) (y ∷ ys) x (e, below_all R h.total x y ys e a) there)

  pub inserted_there : (ys : List K) (x : K) → IsStrictlySortedBy R ys → has eq ys x ≡ true → insert_once R ys x ≡ ys
  unfolding IsStrictlySortedBy
  inserted_there [] x a there = absurd (cc)
  inserted_there (y ∷ ys) x a there =
      let place : (o : Ordering) → R x y ≡ o → match_ordering o (x ∷ y ∷ ys) (y ∷ ys) (y ∷ insert_once R ys x) ≡ y ∷ ys = λ o. elim o as (λ o. R x y ≡ o →
      match_ordering o (x ∷ y ∷ ys) (y ∷ ys) (y ∷ insert_once R ys x) ≡ y ∷ ys) [
        | Less ↦ λ e. absurd (none_before x y ys e a.0 there)
        | Equal ↦ λ e. refl
        | Greater ↦ λ e. ap (λ (zs : List K). y ∷ zs) (inserted_there ys x a.1 (elim (or_cases (eq y x) (has eq ys x) there) [
          | inl here ↦ absurd (irreflexive x (subst (λ (w : K). R w x ≡ Less) (h.same y x here) (h.total.antisymm y x ∙ ap ordering_reverse e)))
          | inr later ↦ later
        ]))
      ] in
      place (R x y) refl

  pub inserted_long : (ys : List K) (x : K) → length (insert_once R ys x) ≤ suc (length ys)
  inserted_long [] x = omega arith
  inserted_long (y ∷ ys) x = elim (R x y) as (λ o. length (match_ordering o (x ∷ y ∷ ys) (y ∷ ys) (y ∷ insert_once R ys x)) ≤ suc (suc (length ys))) [
    | Less ↦ omega arith
    | Equal ↦ omega arith
    | Greater ↦ let rest = inserted_long ys x in omega (arith, rest)
  ]

  -- a new item makes the list longer
  pub inserted_new : (ys : List K) (x : K) → has eq ys x ≡ false → length (insert_once R ys x) ≡ suc (length ys)
  inserted_new [] x none = refl
  inserted_new (y ∷ ys) x none =
      let parts = or_parts (eq y x) (has eq ys x) none in
      let place : (o : Ordering) → R x y ≡ o → length (match_ordering o (x ∷ y ∷ ys) (y ∷ ys) (y ∷ insert_once R ys x)) ≡ suc (suc (length ys)) = λ o. elim o as (λ o. R x y ≡ o →
      length (match_ordering o (x ∷ y ∷ ys) (y ∷ ys) (y ∷ insert_once R ys x)) ≡ suc (suc (length ys))) [
        | Less ↦ λ e. refl
        | Equal ↦ λ e. absurd (let same : eq y x ≡ true = subst (λ (w : K). eq y w ≡ true) (sym (h.ties x y e)) (h.self y) in cc)
        | Greater ↦ λ e. ap suc (inserted_new ys x parts.1)
      ] in
      place (R x y) refl

  fold_all : (P : K → Type 0) (from xs : List K) → AllByRecursion P from → AllByRecursion P xs → AllByRecursion P (fold (insert_once R) from xs)
  fold_all P from [] a b = a
  fold_all P from (x ∷ xs) a b = fold_all P (insert_once R from x) xs (inserted_all P from x b.0 a) b.1

  pub ascending_all : (P : K → Type 0) (xs : List K) → AllByRecursion P xs → AllByRecursion P (ascending R xs)
  ascending_all P xs a = fold_all P [] xs tt a

  -- an item more
  pub ascending_more : (xs : List K) (x : K) → ascending R (xs ++ x ∷ []) ≡ insert_once R (ascending R xs) x
  ascending_more xs x = fold-append (insert_once R) [] xs (x ∷ [])

  -- what is true of each member
  pub all_from_has : (P : K → Type 0) (xs : List K) → ((z : K) → has eq xs z ≡ true → P z) → AllByRecursion P xs
  all_from_has P [] f = tt
  all_from_has P (x ∷ xs) f = (
    f x (ap (λ b. b || has eq xs x) (h.self x)),
    all_from_has P xs (λ z e. f z (ap (λ b. eq x z || b) e ∙ or_true (eq x z))),
  )

  not_equal : (x : K) (ys : List K) → AllByRecursion (λ y. R x y ≡ Less) ys → AllByRecursion (λ y. eq x y ≡ false) ys
  not_equal x [] a = tt
  not_equal x (y ∷ ys) a = (
    elim (decided (eq x y)) [
      | inl here ↦ absurd (irreflexive x (subst (λ (w : K). R x w ≡ Less) (sym (h.same x y here)) a.0))
      | inr none ↦ none
    ],
    not_equal x ys a.1,
  )

  pub distinct_from_sorted : (xs : List K) → IsStrictlySortedBy R xs → IsDistinct eq xs
  unfolding IsStrictlySortedBy IsDistinct
  distinct_from_sorted [] a = tt
  distinct_from_sorted (x ∷ xs) a = (not_equal x xs a.0, distinct_from_sorted xs a.1)

  -- the sum over ascending keys that is taken at one of them
  pub sum_at_key : (f : K → Amount) (xs : List K) (k : K) → IsStrictlySortedBy R xs → total_by (λ j. amount_if (eq j k) (f j)) xs ≡ amount_if (has eq xs k) (f k)
  unfolding IsStrictlySortedBy
  sum_at_key f [] k a = refl
  sum_at_key f (x ∷ xs) k a =
      let rest = sum_at_key f xs k a.1 in
      elim (decided (eq x k)) [
        | inl here ↦
            let same : x ≡ k = h.same x k here in
            let fresh : has eq xs k ≡ false = subst (λ (w : K). has eq xs w ≡ false) same (head_fresh x xs a.0) in
            (λ i. plus (amount_if (here i) (f (same i))) ((rest ∙ ap (λ b. amount_if b (f k)) fresh) i)) ∙ plus_zero (f k) ∙ sym (ap (λ b. amount_if (b || has eq xs k) (f k)) here)
        | inr none ↦ ap (λ b. plus (amount_if b (f x)) (total_by (λ j. amount_if (eq j k) (f j)) xs)) none ∙ zero_plus _ ∙ rest ∙ sym (ap (λ b. amount_if (b || has eq xs k) (f k)) none)
      ]

-- ---- labels and keys

nat_ties : (x y : ℕ) → nat_cmp x y ≡ Equal → x ≡ y
nat_ties x y e = grind (arith, e)

pub eqb_same : (x y : ℕ) → (x == y) ≡ true → x ≡ y
eqb_same x y e = grind (arith, e)

pub eqb_self : (x : ℕ) → (x == x) ≡ true
eqb_self x = grind arith

pub nat_agree : Agree nat_cmp same_number
nat_agree = record { total = nat_cmp_total; ties = nat_ties; same = eqb_same; self = eqb_self }

by_field : (f : Label → ℕ) → IsTotalOrder (λ (a b : Label). nat_cmp (f a) (f b))
by_field f = record {
  antisymm = λ x y. nat_cmp_total.antisymm (f x) (f y);
  trans = λ x y z. nat_cmp_total.trans (f x) (f y) (f z);
  congr = λ x y z. nat_cmp_total.congr (f x) (f y) (f z);
}

pub label_total : IsTotalOrder label_cmp
label_total = then_total (by_field (λ l. l.uid)) (then_total (by_field (λ l. l.tag)) (then_total (by_field (λ l. l.set)) (by_field (λ l. l.iface))))

then_ties : (a b : Ordering) → ordering_then a b ≡ Equal → (a ≡ Equal) × (b ≡ Equal)
then_ties Less b e = absurd (cc)
then_ties Equal b e = (refl, e)
then_ties Greater b e = absurd (cc)

pub label_ties : (x y : Label) → label_cmp x y ≡ Equal → x ≡ y
label_ties x y e =
    let a = then_ties _ _ e in
    let b = then_ties _ _ a.1 in
    let c = then_ties _ _ b.1 in
    λ i. record { uid = nat_ties x.uid y.uid a.0 i; tag = nat_ties x.tag y.tag b.0 i; set = nat_ties x.set y.set c.0 i; iface = nat_ties x.iface y.iface c.1 i }

pub label_same : (x y : Label) → same_label x y ≡ true → x ≡ y
label_same x y e =
    let a = and_parts _ _ e in
    let b = and_parts _ _ a.0 in
    let c = and_parts _ _ b.0 in
    λ i. record { uid = eqb_same x.uid y.uid c.0 i; tag = eqb_same x.tag y.tag c.1 i; set = eqb_same x.set y.set b.1 i; iface = eqb_same x.iface y.iface a.1 i }

pub label_self : (x : Label) → same_label x x ≡ true
label_self x = rw (eqb_self x.uid, eqb_self x.tag, eqb_self x.set, eqb_self x.iface) refl

pub label_agree : Agree label_cmp same_label
label_agree = record { total = label_total; ties = label_ties; same = label_same; self = label_self }
