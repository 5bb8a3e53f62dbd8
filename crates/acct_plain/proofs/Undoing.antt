-- What is taken back when a later step wants memory.
use Rattle.std.proofs.Common.{◌≡◌, ℕ, ◌&&◌, Bool, true, false, cond, List, map, Option, Some, refl, sym, ap, ◌∙◌}
use Rattle.std.specs.List.Sorted.{IsStrictlySortedBy}
use Rattle.std.specs.Ordering.{is_eq}
use Rattle.std.specs.declared.cmp.Ordering.{Ordering}
use mathlib.Core.Logic.{inl, inr}
use Rattle.acct_base.specs.declared.amount.Amount.{Amount}
use Rattle.acct_base.specs.Amounts.{plus}
use Rattle.acct_base.proofs.Keys.{Agree, decided}
use Rattle.acct_plain.specs.Ledgers.{find, amount_of, Adds, Sets}
use Rattle.acct_plain.proofs.Items.{same_entries}

and_false : (a b : Bool) → b ≡ false → (a && b) ≡ false
and_false true b e = e
and_false false b e = refl

pub put_back : {K : Type 0} (R : K → K → Ordering) (eq : K → K → Bool) → Agree R eq → ((a b : K) → eq a b ≡ is_eq (R b a)) → (old mid new : List (K × Amount)) (key : K) (before : Option Amount) →
    IsStrictlySortedBy R (map (λ (e : K × Amount). e.0) old) → IsStrictlySortedBy R (map (λ (e : K × Amount). e.0) new) → ((k : K) → is_eq (R key k) ≡ false → find R mid k ≡ find R old k) → before ≡ find R old key → Sets R mid new key before → new ≡ old
put_back {K = K} R eq h is old mid new key before sorted then others had sets =
    same_entries R eq h is new old then sorted (λ k. sets.sums k ∙ elim (decided (is_eq (R key k))) [
      | inl here ↦
          let equal : k ≡ key = h.same k key (is k key ∙ here) in
          ap (λ b. cond b before (find R mid k)) here ∙ had ∙ ap (find R old) (sym equal)
      | inr other ↦ ap (λ b. cond b before (find R mid k)) other ∙ others k other
    ])

-- an add changes nothing at another key
pub add_elsewhere : {K : Type 0} (R : K → K → Ordering) (old mid : List (K × Amount)) (limit : ℕ) (key : K) (more : Amount) (landed : Bool) → Adds R old mid limit key more landed → (k : K) → is_eq (R key k) ≡ false → find R mid k ≡ find R old k
add_elsewhere R old mid limit key more landed adds k other =
    adds.sums k ∙ ap (λ b. cond b (Some (plus (amount_of R old key) more)) (find R old k)) (and_false landed (is_eq (R key k)) other)
