-- The counts of receipts, part by part.
use Rattle.std.proofs.Common.{◌≡◌, ℕ, ◌+◌, ◌<◌, ◌≤◌, ◌^◌, List, [], ◌∷◌, ◌++◌, length, get_or, take, sym, ap, subst, ◌∙◌, arith}
use Rattle.std.specs.List.{flat_map}
use Rattle.std.specs.Prelude.{OnErr, Result, Ok, Err}
use Rattle.std.proofs.lemmas.Grind.{flat_map-append}
use Rattle.std.proofs.lemmas.List.{append-nil, take_more, length-append}
use Rattle.std.proofs.lemmas.List.Folds.{length-flat_map-take}
use Rattle.acct_base.specs.declared.receipt.LineReceipt.{LineReceipt}
use Rattle.shelf.specs.declared.counts.CallCounts.{CallCounts}
use Rattle.shelf.specs.Counted.{counts_of, counts_together, CountsFit}
use Rattle.shelf.proofs.CountLemmas.{counts-append, counts_fit}

-- the receipts of one more lane or section
pub counts_more : {A : Type 0} (f : A → List (ℕ × LineReceipt)) (xs : List A) (i : ℕ) (x : A) (sum new : CallCounts) → i < length xs → x ≡ get_or xs i x
    → sum ≡ counts_of (flat_map f (take i xs)) → new ≡ counts_together sum (counts_of (f x)) → new ≡ counts_of (flat_map f (take (i + 1) xs))
counts_more f xs i x sum new lt is before after =
    let parts : flat_map f (take (i + 1) xs) ≡ flat_map f (take i xs) ++ f x = ap (flat_map f) (take_more xs i x lt) ∙ flat_map-append f (take i xs) (get_or xs i x ∷ [])
    ∙ ap (λ (y : List (ℕ × LineReceipt)). flat_map f (take i xs) ++ y) (append-nil (f (get_or xs i x)) ∙ ap f (sym is)) in
    after ∙ ap (λ (c : CallCounts). counts_together c (counts_of (f x))) before ∙ sym (ap counts_of parts ∙ counts-append (flat_map f (take i xs)) (f x))

-- ---- counts of few receipts fit

both_fit : (xs ys : List (ℕ × LineReceipt)) (a b : CallCounts) → a ≡ counts_of xs → b ≡ counts_of ys → length xs + length ys ≤ 2 ^ 62 → CountsFit (counts_together a b)
both_fit xs ys a b first second few =
    let same : counts_together a b ≡ counts_of (xs ++ ys) = (λ i. counts_together (first i) (second i)) ∙ sym (counts-append xs ys) in
    let both = length-append xs ys in
    subst CountsFit (sym same) (counts_fit (xs ++ ys) (omega (arith, both, few)))

-- the receipts of one more lane or section, where all are few
pub more_fits : {A : Type 0} (f : A → List (ℕ × LineReceipt)) (xs : List A) (i : ℕ) (x : A) (sum more : CallCounts) → i < length xs → x ≡ get_or xs i x → sum ≡ counts_of (flat_map f (take i xs)) → more ≡ counts_of (f x)
    → length (flat_map f xs) ≤ 2 ^ 62 → CountsFit (counts_together sum more)
more_fits f xs i x sum more lt is before here few =
    let fronts = length-flat_map-take f xs i x lt in
    let same : length (f x) ≡ length (f (get_or xs i x)) = ap (λ y. length (f y)) is in
    both_fit (flat_map f (take i xs)) (f x) sum more before here (omega (arith, fronts, same, few))

-- each lane or section has no more receipts than all together
pub part_is_few : {A : Type 0} (f : A → List (ℕ × LineReceipt)) (xs : List A) (i : ℕ) (x : A) → i < length xs → x ≡ get_or xs i x → length (flat_map f xs) ≤ 2 ^ 62 → length (f x) ≤ 2 ^ 62
part_is_few f xs i x lt is few =
    let fronts = length-flat_map-take f xs i x lt in
    let same : length (f x) ≡ length (f (get_or xs i x)) = ap (λ y. length (f y)) is in
    omega (arith, fronts, same, few)

pub where_err : {T E : Type 0} (r : Result T E) (P : Type 0) → P → OnErr r P
where_err (Ok x) P p = tt
where_err (Err e) P p = p
