-- The snapshots that the collector gave, and then the live one.
use Rattle.std.proofs.Common.{◌≡◌, ℕ, zero, suc, List, [], ◌∷◌, ◌++◌, length, subst}
use Rattle.std.specs.Prelude.{slice_get, None, Some}
use Rattle.acct_base.specs.declared.amount.Snapshot.{Snapshot}

the_same : (a b : Snapshot) → Some a ≡ Some b → a ≡ b
the_same a b e = cc

is_none : (a : Snapshot) → None ≡ Some a → ⊥
is_none a e = cc

-- what is so of each that was given, and of the last by its number, is so of all
pub with_last : (P : ℕ → Snapshot → Type 0) (given : List Snapshot) (last : Snapshot) → ((n : ℕ) (s : Snapshot) → slice_get given n ≡ Some s → P n s) → P (length given) last
    → (n : ℕ) (s : Snapshot) → slice_get (given ++ last ∷ []) n ≡ Some s → P n s
with_last P [] last h k zero s e = subst (λ (x : Snapshot). P zero x) (the_same last s e) k
with_last P [] last h k (suc n) s e = absurd (is_none s e)
with_last P (x ∷ xs) last h k zero s e = h zero s e
with_last P (x ∷ xs) last h k (suc n) s e = with_last (λ m t. P (suc m) t) xs last (λ m t d. h (suc m) t d) k n s e
