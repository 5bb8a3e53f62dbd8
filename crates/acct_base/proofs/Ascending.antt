-- An ascending list of numbers has each of them once, so it is as long as there are different ones.
use Rattle.std.proofs.Common.{◌≡◌, ℕ, ◌||◌, nat_eq, List, [], ◌∷◌, length, refl, sym, ap, ◌∙◌}
use Rattle.std.specs.List.Sorted.{IsStrictlySortedBy}
use Rattle.std.specs.Ordering.{nat_cmp}
use Rattle.acct_base.specs.Distinct.{mem, distinct, NoTwice}
use Rattle.acct_base.specs.Landings.{same_number}
use Rattle.acct_base.specs.Ordered.{ascending}
use Rattle.acct_base.proofs.DistinctLemmas.{distinct_is}
use Rattle.acct_base.proofs.Keys.{has, nat_agree, head_fresh, ascending_has, ascending_sorted}

mem-has : (x : ℕ) (xs : List ℕ) → mem x xs ≡ has same_number xs x
mem-has x [] = refl
mem-has x (y ∷ ys) = ap (λ b. nat_eq y x || b) (mem-has x ys)

once : (xs : List ℕ) → IsStrictlySortedBy nat_cmp xs → NoTwice xs
unfolding IsStrictlySortedBy
once [] s = tt
once (x ∷ xs) s = (mem-has x xs ∙ head_fresh nat_cmp same_number nat_agree x xs s.0, once xs s.1)

mem-ascending : (xs : List ℕ) (x : ℕ) → mem x (ascending nat_cmp xs) ≡ mem x xs
mem-ascending xs x = mem-has x (ascending nat_cmp xs) ∙ ascending_has nat_cmp same_number nat_agree xs x ∙ sym (mem-has x xs)

pub distinct_ascending : (xs : List ℕ) → distinct xs ≡ length (ascending nat_cmp xs)
distinct_ascending xs = distinct_is (ascending nat_cmp xs) xs (once (ascending nat_cmp xs) (ascending_sorted nat_cmp same_number nat_agree xs))
    (λ x m. mem-ascending xs x ∙ m) (λ x m. sym (mem-ascending xs x) ∙ m)
