-- A ledger after one amount more.
use Rattle.std.proofs.Common.{◌≡◌, ℕ, ◌+◌, ◌≤◌, ◌<◌, ◌&&◌, ◌||◌, not, Bool, true, false, cond, List, length, Option, Some, None, refl, sym, ap, subst, ◌∙◌, arith}
use Rattle.std.specs.Prelude.{IsSome, unwrap_or, is_some, nat_lt, Result, Ok, Err, OnOk, OnErr}
use Rattle.std.specs.Ordering.{is_eq}
use Rattle.std.specs.declared.cmp.Ordering.{Ordering}
use Rattle.acct_base.specs.declared.amount.Amount.{Amount}
use Rattle.acct_base.specs.declared.label.Label.{Label}
use Rattle.acct_base.specs.Amounts.{zero_amount, plus, HasRoom}
use Rattle.acct_base.proofs.SumLemmas.{zero_plus}
use Rattle.acct_plain.specs.Ledgers.{find, amount_of, Adds}
use Rattle.acct_plain.proofs.Holding.{room_once}

is_there : (a : Amount) → IsSome (Some a)
is_there a = grind arith

nothing_more : (n : ℕ) (b : Bool) → b ≡ true → n + cond (not b) 1 0 ≡ n
nothing_more n true e = omega arith
nothing_more n false e = absurd (cc)

one_more : (n : ℕ) (b : Bool) → n + cond b 0 1 ≡ n + cond (not b) 1 0
one_more n true = refl
one_more n false = refl

module _ {K : Type 0} (cmp : K → K → Ordering) (es fs : List (K × Amount)) (limit : ℕ) (key : K) (more : Amount) where
  -- at a key that is there
  pub added_there : (old : Amount) → Some old ≡ find cmp es key →
      (IsSome (find cmp es key) → (k : K) → find cmp fs k ≡ cond (is_eq (cmp key k)) (Some (plus old more)) (find cmp es k)) →
      length fs ≡ length es → Adds cmp es fs limit key more true
  added_there old had gets count =
      let there : is_some (find cmp es key) ≡ true = sym (ap (λ (o : Option Amount). is_some o) had) in
      record {
        lands = sym (ap (λ b. b || nat_lt (length es) limit) there);
        sums = λ k. gets (subst (λ (o : Option Amount). IsSome o) had (is_there old)) k ∙ ap (λ (o : Option Amount). cond (is_eq (cmp key k)) (Some (plus (unwrap_or o zero_amount) more)) (find cmp es k)) had;
        count = count ∙ sym (nothing_more (length es) (is_some (find cmp es key)) there);
      }

  -- at a key that is not there, and there is no room
  pub full_there : None ≡ find cmp es key → limit ≤ length es → fs ≡ es → Adds cmp es fs limit key more false
  full_there none long same =
      let absent : is_some (find cmp es key) ≡ false = sym (ap (λ (o : Option Amount). is_some o) none) in
      let lt : nat_lt (length es) limit ≡ false = grind (arith, long) in
      record {
        lands = sym (ap (λ b. b || nat_lt (length es) limit) absent ∙ lt);
        sums = λ k. ap (λ (xs : List (K × Amount)). find cmp xs k) same;
        count = let e = ap (λ (xs : List (K × Amount)). length xs) same in omega (arith, e);
      }

  -- at a key that is not there, and there is room
  pub put_there : None ≡ find cmp es key → length es < limit →
      ((k : K) → find cmp fs k ≡ cond (is_eq (cmp key k)) (Some more) (find cmp es k)) →
      length fs ≡ length es + cond (is_some (find cmp es key)) 0 1 → Adds cmp es fs limit key more true
  put_there none short gets count =
      let absent : is_some (find cmp es key) ≡ false = sym (ap (λ (o : Option Amount). is_some o) none) in
      let lt : nat_lt (length es) limit ≡ true = grind (arith, short) in
      record {
        lands = sym (ap (λ b. b || nat_lt (length es) limit) absent ∙ lt);
        sums = λ k. gets k ∙ ap (λ (a : Amount). cond (is_eq (cmp key k)) (Some a) (find cmp es k)) (sym (zero_plus more) ∙ ap (λ (o : Option Amount). plus (unwrap_or o zero_amount) more) none);
        count = count ∙ one_more (length es) (is_some (find cmp es key));
      }

-- what a call gives that cannot be refused
pub sure : {A E : Type 0} (r : Result A E) (P : Type 0) (o : Option Amount) → OnErr r (o ≡ None) → is_some o ≡ true → OnOk r P → P
sure (Ok x) P o e s h = h
sure (Err x) P o e s h = absurd (let none : is_some o ≡ false = ap (λ (q : Option Amount). is_some q) e in cc)

-- room after an amount was added
pub room_after : (cmp : Label → Label → Ordering) (old new : List (Label × Amount)) (limit : ℕ) (key l : Label) (more : Amount) (landed : Bool) → Adds cmp old new limit key more landed →
    ((k : Label) → HasRoom (plus (plus (amount_of cmp old k) more) more)) → HasRoom (plus (amount_of cmp new l) more)
room_after cmp old new limit key l more landed adds room =
    subst (λ (o : Option Amount). HasRoom (plus (unwrap_or o zero_amount) more)) (sym (adds.sums l)) (by_test (landed && is_eq (cmp key l)))
  where
    by_test : (b : Bool) → HasRoom (plus (unwrap_or (cond b (Some (plus (amount_of cmp old key) more)) (find cmp old l)) zero_amount) more)
    by_test true = room key
    by_test false = room_once (amount_of cmp old l) more (room l)
