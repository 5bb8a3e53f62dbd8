-- Lists read by `get_elem?`, and their sums.
use Rattle.std.proofs.Common.{◌≡◌, ◌≢◌, ◌⊎◌, ℕ, zero, suc, ◌+◌, ◌<◌, ◌≤◌, List, [], ◌∷◌, ◌++◌, length, get_or, set, sym, refl, ap, subst, inl, inr, ⊎_elim, arith}
use Rattle.std.specs.Prelude.{None, Some, slice_get, sum_by}
use Rattle.std.proofs.lemmas.List.Sums.{sum_by-cons}

pub some-injective : {A : Type 0} (a b : A) → Some a ≡ Some b → a ≡ b
some-injective a b e = cc

pub some-ne-none : {A : Type 0} (a : A) → Some a ≡ None → ⊥
some-ne-none a e = cc

module _ {A : Type 0} where
  pub at_set : (l : List A) (i j : ℕ) (a b : A) → slice_get (set l i a) j ≡ Some b → ((j ≡ i) × (a ≡ b)) ⊎ ((j ≢ i) × (slice_get l j ≡ Some b))
  at_set [] i j a b e = absurd (some-ne-none b (sym e))
  at_set (x ∷ xs) zero zero a b e = inl (refl, some-injective a b e)
  at_set (x ∷ xs) zero (suc j) a b e = inr ((λ h. omega arith), e)
  at_set (x ∷ xs) (suc i) zero a b e = inr ((λ h. omega arith), e)
  at_set (x ∷ xs) (suc i) (suc j) a b e = ⊎_elim (λ t. inl (ap suc t.0, t.1)) (λ t. let n = t.0 in inr ((λ h. n (omega arith)), t.1)) (at_set xs i j a b e)

  pub at_snoc : (l : List A) (a b : A) (j : ℕ) → slice_get (l ++ a ∷ []) j ≡ Some b → (slice_get l j ≡ Some b) ⊎ (a ≡ b)
  at_snoc [] a b zero e = inr (some-injective a b e)
  at_snoc [] a b (suc j) e = absurd (some-ne-none b (sym e))
  at_snoc (x ∷ xs) a b zero e = inl e
  at_snoc (x ∷ xs) a b (suc j) e = at_snoc xs a b j e

  pub at_end : (l : List A) (a b : A) (j : ℕ) → slice_get (l ++ a ∷ []) j ≡ Some b → (slice_get l j ≡ Some b) ⊎ ((j ≡ length l) × (a ≡ b))
  at_end [] a b zero e = inr (refl, some-injective a b e)
  at_end [] a b (suc j) e = absurd (some-ne-none b (sym e))
  at_end (x ∷ xs) a b zero e = inl e
  at_end (x ∷ xs) a b (suc j) e = ⊎_elim (λ (h : slice_get xs j ≡ Some b). inl h) (λ (h : (j ≡ length xs) × (a ≡ b)). inr (ap suc h.0, h.1)) (at_end xs a b j e)

  pub at_below : (l : List A) (i : ℕ) (a : A) → slice_get l i ≡ Some a → i < length l
  at_below [] i a e = absurd (some-ne-none a (sym e))
  at_below (x ∷ xs) zero a e = omega arith
  at_below (x ∷ xs) (suc i) a e = let r = at_below xs i a e in omega arith

  pub at_or : (l : List A) (i : ℕ) (a d : A) → slice_get l i ≡ Some a → get_or l i d ≡ a
  at_or [] i a d e = absurd (some-ne-none a (sym e))
  at_or (x ∷ xs) zero a d e = some-injective x a e
  at_or (x ∷ xs) (suc i) a d e = at_or xs i a d e

  pub at_index : (l : List A) (i : ℕ) (a : A) → i < length l → a ≡ get_or l i a → slice_get l i ≡ Some a
  at_index [] i a h e = absurd (omega arith)
  at_index (x ∷ xs) zero a h e = ap Some (sym e)
  at_index (x ∷ xs) (suc i) a h e = at_index xs i a (omega arith) e

  -- what holds of each stays so, where one is replaced
  pub each_set : (P Q : A → Type 0) (l : List A) (i : ℕ) (w : A) → ((j : ℕ) (v : A) → slice_get l j ≡ Some v → P v) → Q w → ((v : A) → P v → Q v) → (j : ℕ) (v : A) → slice_get (set l i w) j ≡ Some v → Q v
  each_set P Q l i w each here others j v e = ⊎_elim (λ (t : (j ≡ i) × (w ≡ v)). subst Q t.1 here) (λ (t : (j ≢ i) × (slice_get l j ≡ Some v)). others v (each j v t.1)) (at_set l i j w v e)

  pub each_snoc : (P Q : A → Type 0) (l : List A) (w : A) → ((j : ℕ) (v : A) → slice_get l j ≡ Some v → P v) → Q w → ((v : A) → P v → Q v) → (j : ℕ) (v : A) → slice_get (l ++ w ∷ []) j ≡ Some v → Q v
  each_snoc P Q l w each here others j v e = ⊎_elim (λ (t : slice_get l j ≡ Some v). others v (each j v t)) (λ (t : w ≡ v). subst Q t here) (at_snoc l w v j e)

  pub set_else : (l : List A) (i j : ℕ) (a : A) → j ≢ i → slice_get (set l i a) j ≡ slice_get l j
  set_else [] i j a n = refl
  set_else (x ∷ xs) zero zero a n = absurd (n refl)
  set_else (x ∷ xs) zero (suc j) a n = refl
  set_else (x ∷ xs) (suc i) zero a n = refl
  set_else (x ∷ xs) (suc i) (suc j) a n = set_else xs i j a (λ e. n (ap suc e))

  pub each_append : (P : A → Type 0) (l m : List A) → ((j : ℕ) (v : A) → slice_get l j ≡ Some v → P v) → ((j : ℕ) (v : A) → slice_get m j ≡ Some v → P v) → (j : ℕ) (v : A) → slice_get (l ++ m) j ≡ Some v → P v
  each_append P [] m a b j v e = b j v e
  each_append P (x ∷ xs) m a b zero v e = a zero v e
  each_append P (x ∷ xs) m a b (suc j) v e = each_append P xs m (λ k u h. a (suc k) u h) b j v e

  module _ (f : A → ℕ) where
    pub sum_at : (l : List A) (i : ℕ) (v w : A) → slice_get l i ≡ Some v → sum_by f (set l i w) + f v ≡ sum_by f l + f w
    sum_at [] i v w e = absurd (some-ne-none v (sym e))
    sum_at (x ∷ xs) zero v w e = let is : f x ≡ f v = ap f (some-injective x v e) in let a = sum_by-cons f w xs in let b = sum_by-cons f x xs in omega arith
    sum_at (x ∷ xs) (suc i) v w e = let r = sum_at xs i v w e in let a = sum_by-cons f x (set xs i w) in let b = sum_by-cons f x xs in omega arith

    pub sum_same : (l : List A) (i : ℕ) (v w : A) → slice_get l i ≡ Some v → f w ≡ f v → sum_by f (set l i w) ≡ sum_by f l
    sum_same l i v w e same = let s = sum_at l i v w e in omega arith

    pub sum_part : (l : List A) (i : ℕ) (v : A) → slice_get l i ≡ Some v → f v ≤ sum_by f l
    sum_part [] i v e = absurd (some-ne-none v (sym e))
    sum_part (x ∷ xs) zero v e = let is : f x ≡ f v = ap f (some-injective x v e) in let b = sum_by-cons f x xs in omega arith
    sum_part (x ∷ xs) (suc i) v e = let r = sum_part xs i v e in let b = sum_by-cons f x xs in omega arith

    pub sum_none : (l : List A) → ((j : ℕ) (v : A) → slice_get l j ≡ Some v → f v ≡ 0) → sum_by f l ≡ 0
    sum_none [] z = refl
    sum_none (x ∷ xs) z = let r = sum_none xs (λ j v e. z (suc j) v e) in let h = z zero x refl in let b = sum_by-cons f x xs in omega arith

  pub sum_vanish : (f g : A → ℕ) (l : List A) → ((a : A) → f a ≡ 0 → g a ≡ 0) → sum_by f l ≡ 0 → sum_by g l ≡ 0
  sum_vanish f g [] h e = refl
  sum_vanish f g (x ∷ xs) h e = let a = sum_by-cons f x xs in let b = sum_by-cons g x xs in let r = sum_vanish f g xs h (omega arith) in let k = h x (omega arith) in omega arith

  pub sum_below : (f g : A → ℕ) (l : List A) → ((j : ℕ) (a : A) → slice_get l j ≡ Some a → f a ≤ g a) → sum_by f l ≤ sum_by g l
  sum_below f g [] h = omega arith
  sum_below f g (x ∷ xs) h = let a = sum_by-cons f x xs in let b = sum_by-cons g x xs in let r = sum_below f g xs (λ j v e. h (suc j) v e) in let k = h zero x refl in omega arith
