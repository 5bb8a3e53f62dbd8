-- Rows that ascend by label are given by which rows they are.
use Rattle.std.proofs.Common.{◌≡◌, ◌≢◌, ◌⊎◌, zero, suc, List, [], ◌∷◌, refl, sym, ap, ◌∙◌, subst, inl, inr, ⊎_elim, arith}
use Rattle.std.specs.Prelude.{All, IsPermutation}
use Rattle.std.specs.List.{AllByRecursion}
use Rattle.std.specs.List.Sorted.{IsStrictlySortedBy}
use Rattle.std.specs.declared.cmp.Ordering.TheVariants.{Less, Greater}
use Rattle.std.specs.Ordering.{ordering_reverse}
use Rattle.std.proofs.lemmas.List.Sorted.{All-permutation, IsPermutation-sym}
use Rattle.acct_base.specs.declared.label.Label.{Label}
use Rattle.acct_base.specs.declared.amount.Row.{Row}
use Rattle.acct_base.specs.Amounts.{label_cmp, labels_of, RowsAscend}
use Rattle.acct_base.proofs.Keys.{label_total}

-- ---- two ways to say it of each row

each : (P : Row → Type 0) (xs : List Row) → AllByRecursion P xs → All P xs
each P [] h k d l = absurd (omega arith)
each P (x ∷ xs) h zero d l = h.0
each P (x ∷ xs) h (suc k) d l = each P xs h.1 k d (omega arith)

one_by_one : (P : Row → Type 0) (xs : List Row) → All P xs → AllByRecursion P xs
one_by_one P [] h = tt
one_by_one P (x ∷ xs) h = (h zero x (omega arith), one_by_one P xs (λ k d l. h (suc k) d (omega arith)))

-- one list has each property that the other has
abbrev Passes : List Row → List Row → (Row → Type 0) → Type 0
Passes xs ys P = AllByRecursion P xs → AllByRecursion P ys

moved_passes : (xs ys : List Row) → IsPermutation xs ys → (P : Row → Type 0) → Passes xs ys P
moved_passes xs ys p P h = one_by_one P ys (All-permutation P xs ys p (each P xs h))

-- ---- order

apart : Greater ≡ Less → ⊥
apart e = cc

not_both : (a b : Label) → label_cmp a b ≡ Less → label_cmp b a ≡ Less → ⊥
not_both a b e f = apart (sym (ap ordering_reverse f) ∙ (sym (label_total.antisymm a b) ∙ e))

not_self : (a : Label) → label_cmp a a ≡ Less → ⊥
not_self a e = not_both a a e e

abbrev AtLeast : Row → Row → Type 0
AtLeast x z = (z ≡ x) ⊎ (label_cmp x.label z.label ≡ Less)

later : (x : Row) (xs : List Row) → AllByRecursion (λ l. label_cmp x.label l ≡ Less) (labels_of xs) → AllByRecursion (AtLeast x) xs
later x [] h = tt
later x (y ∷ ys) h = (inr h.0, later x ys h.1)

-- what comes behind a row is another
others : (x : Row) (xs : List Row) (P : Row → Type 0) → AllByRecursion (λ l. label_cmp x.label l ≡ Less) (labels_of xs) → AllByRecursion (λ z. z ≢ x → P z) xs → AllByRecursion P xs
others x [] P after h = tt
others x (y ∷ ys) P after h = (h.0 (λ e. not_self x.label (ap (λ (z : Row). label_cmp x.label z.label) (sym e) ∙ after.0)), others x ys P after.1 h.1)

guarded : (x : Row) (xs : List Row) (P : Row → Type 0) → AllByRecursion P xs → AllByRecursion (λ z. z ≢ x → P z) xs
guarded x [] P h = tt
guarded x (y ∷ ys) P h = (λ _. h.0, guarded x ys P h.1)

heads : (x y : Row) → AtLeast x y → AtLeast y x → x ≡ y
heads x y a b = ⊎_elim (λ (e : y ≡ x). sym e) (λ (l : label_cmp x.label y.label ≡ Less). ⊎_elim (λ (e : x ≡ y). e) (λ (m : label_cmp y.label x.label ≡ Less). absurd (not_both x.label y.label l m)) b) a

same_rows : (xs ys : List Row) → RowsAscend xs → RowsAscend ys → ((P : Row → Type 0) → Passes xs ys P) → ((P : Row → Type 0) → Passes ys xs P) → xs ≡ ys
unfolding IsStrictlySortedBy
same_rows [] [] a b f g = refl
same_rows [] (y ∷ ys) a b f g = absurd ((f (λ _. ⊥) tt).0)
same_rows (x ∷ xs) [] a b f g = absurd ((g (λ _. ⊥) tt).0)
same_rows (x ∷ xs) (y ∷ ys) a b f g = let e : x ≡ y = heads x y (f (AtLeast x) (inl refl, later x xs a.0)).0 (g (AtLeast y) (inl refl, later y ys b.0)).0 in
    λ i. e i ∷ same_rows xs ys a.1 b.1
    (λ P h. others y ys P b.0 (subst (λ (r : Row). AllByRecursion (λ z. z ≢ r → P z) ys) e (f (λ z. z ≢ x → P z) ((λ ne. absurd (ne refl)), guarded x xs P h)).1))
    (λ P h. others x xs P a.0 (subst (λ (r : Row). AllByRecursion (λ z. z ≢ r → P z) xs) (sym e) (g (λ z. z ≢ y → P z) ((λ ne. absurd (ne refl)), guarded y ys P h)).1)) i

-- ascending rows of the same rows are equal
pub ascending_is_one : (from xs ys : List Row) → IsPermutation from xs → IsPermutation from ys → RowsAscend xs → RowsAscend ys → xs ≡ ys
ascending_is_one from xs ys p q a b = same_rows xs ys a b (λ P h. moved_passes from ys q P (moved_passes xs from (IsPermutation-sym from xs p) P h)) (λ P h. moved_passes from xs p P (moved_passes ys from (IsPermutation-sym from ys q) P h))
