-- A map of sums after one amount more holds the sums of a list with one item more.
use Rattle.std.proofs.Common.{◌≡◌, ℕ, suc, ◌+◌, ◌*◌, ◌^◌, ◌≤◌, ◌&&◌, ◌||◌, not, Bool, true, false, cond, List, [], ◌∷◌, ◌++◌, length, map, Option, Some, None, refl, sym, ap, subst, ◌∙◌, arith}
use Rattle.std.specs.Prelude.{unwrap_or, is_some, nat_lt, filter, if◌then◌else◌}
use Rattle.std.specs.List.{AllByRecursion, list_any}
use Rattle.std.specs.Ordering.{is_eq}
use Rattle.std.specs.declared.cmp.Ordering.{Ordering}
use mathlib.Core.Logic.{inl, inr}
use Rattle.acct_base.specs.declared.amount.Amount.{Amount}
use Rattle.acct_base.specs.Amounts.{zero_amount, plus, total_by, amount_if, HasRoom}
use Rattle.acct_base.specs.Ordered.{insert_once, ascending}
use Rattle.acct_base.proofs.SumLemmas.{total_by-append}
use Rattle.acct_base.specs.Landings.{finds_room}
use Rattle.acct_plain.specs.Ledgers.{find, amount_of, Adds, HoldsSums}
use Rattle.acct_plain.specs.Kept.{IsSmall}
use Rattle.acct_base.proofs.Keys.{Agree, has, decided, plus_zero, inserted_has, inserted_there, inserted_new, ascending_has, ascending_sorted}
use Rattle.acct_plain.proofs.Turns.{taken_more}
use Rattle.acct_plain.proofs.Tables.{none_total}

-- ---- bounds

pub record IsBelow (m : ℕ) (a : Amount) : Type 0 where
  pub rx_packets : a.rx_packets ≤ 524287 * m
  pub rx_bytes : a.rx_bytes ≤ 524287 * m
  pub tx_packets : a.tx_packets ≤ 524287 * m
  pub tx_bytes : a.tx_bytes ≤ 524287 * m

below_more : (m : ℕ) (a b : Amount) (t : Bool) → IsSmall a → IsBelow m b → IsBelow (suc m) (plus (amount_if t a) b)
below_more m a b true h k = record {
  rx_packets = omega (arith, h.rx_packets, k.rx_packets);
  rx_bytes = omega (arith, h.rx_bytes, k.rx_bytes);
  tx_packets = omega (arith, h.tx_packets, k.tx_packets);
  tx_bytes = omega (arith, h.tx_bytes, k.tx_bytes);
}
below_more m a b false h k = record {
  rx_packets = omega (arith, k.rx_packets);
  rx_bytes = omega (arith, k.rx_bytes);
  tx_packets = omega (arith, k.tx_packets);
  tx_bytes = omega (arith, k.tx_bytes);
}

pub sum_below : {X : Type 0} (p : X → Bool) (f : X → Amount) (xs : List X) → AllByRecursion (λ x. IsSmall (f x)) xs → IsBelow (length xs) (total_by (λ x. amount_if (p x) (f x)) xs)
sum_below p f [] h = record { rx_packets = omega arith; rx_bytes = omega arith; tx_packets = omega arith; tx_bytes = omega arith }
sum_below p f (x ∷ xs) h = below_more (length xs) (f x) _ (p x) h.0 (sum_below p f xs h.1)

-- an amount more fits
room : (m : ℕ) (b : Bool) (a more : Amount) → m + 2 ≤ 2 ^ 30 → IsBelow m a → IsSmall more → HasRoom (plus (plus (unwrap_or (if b then Some a else None) zero_amount) more) more)
room m true a more le h k = record {
  rx_packets = omega (arith, le, h.rx_packets, k.rx_packets);
  rx_bytes = omega (arith, le, h.rx_bytes, k.rx_bytes);
  tx_packets = omega (arith, le, h.tx_packets, k.tx_packets);
  tx_bytes = omega (arith, le, h.tx_bytes, k.tx_bytes);
}
room m false a more le h k = record {
  rx_packets = omega (arith, k.rx_packets);
  rx_bytes = omega (arith, k.rx_bytes);
  tx_packets = omega (arith, k.tx_packets);
  tx_bytes = omega (arith, k.tx_bytes);
}

pub has_room : {K : Type 0} (R : K → K → Ordering) (eq : K → K → Bool) (es : List (K × Amount)) (ks : List K) (sum : K → Amount) (key : K) (more : Amount) (m n : ℕ) → HoldsSums R eq es ks sum →
    IsBelow m (sum key) → m ≤ n → n + 2 ≤ 2 ^ 30 → IsSmall more → HasRoom (plus (plus (amount_of R es key) more) more)
has_room R eq es ks sum key more m n holds below le few small =
    subst (λ (o : Option Amount). HasRoom (plus (plus (unwrap_or o zero_amount) more) more)) (sym (holds.sums key)) (room m (has eq ks key) (sum key) more (omega (arith, le, few)) below small)

pub room_once : (a more : Amount) → HasRoom (plus (plus a more) more) → HasRoom (plus a more)
room_once a more h = record {
  rx_packets = omega (arith, h.rx_packets);
  rx_bytes = omega (arith, h.rx_bytes);
  tx_packets = omega (arith, h.tx_packets);
  tx_bytes = omega (arith, h.tx_bytes);
}

-- ---- one more

and_right : (b : Bool) → (true && b) ≡ b
and_right b = refl

is_some_if : (b : Bool) (a : Amount) → is_some (if b then Some a else None) ≡ b
is_some_if true a = refl
is_some_if false a = refl

unwrap_if : (b : Bool) (a : Amount) → (b ≡ false → a ≡ zero_amount) → unwrap_or (if b then Some a else None) zero_amount ≡ a
unwrap_if true a f = refl
unwrap_if false a f = sym (f refl)

module _ {X K : Type 0} (R : K → K → Ordering) (eq : K → K → Bool) (h : Agree R eq) (is : (a b : K) → eq a b ≡ is_eq (R b a)) (key : X → K) (test : X → Bool) (Refused : X → Type 0) (amt : X → Amount) where
  abbrev pub keys_in : List X → List K
  keys_in xs = ascending R (map key (filter test xs))

  abbrev pub sum_in : List X → K → Amount
  sum_in xs k = total_by (λ (x : X). amount_if (test x && eq (key x) k) (amt x)) xs

  any_kept : (z : K) (xs : List X) → has eq (map key (filter test xs)) z ≡ list_any (λ (x : X). test x && eq (key x) z) xs
  any_kept z [] = refl
  any_kept z (x ∷ xs) = elim (test x) as (λ b. has eq (map key (cond b (x ∷ filter test xs) (filter test xs))) z ≡ ((b && eq (key x) z) || list_any (λ (x : X). test x && eq (key x) z) xs)) [
    | true ↦ ap (λ b. eq (key x) z || b) (any_kept z xs)
    | false ↦ any_kept z xs
  ]

  -- a key that is not there comes to nothing
  none_there : (z : K) (xs : List X) → has eq (keys_in xs) z ≡ false → sum_in xs z ≡ zero_amount
  none_there z xs e = none_total (λ (x : X). test x && eq (key x) z) amt xs (sym (any_kept z xs) ∙ sym (ascending_has R eq h (map key (filter test xs)) z) ∙ e)

  sum_more : (xs : List X) (x : X) (k : K) → sum_in (xs ++ x ∷ []) k ≡ plus (sum_in xs k) (amount_if (test x && eq (key x) k) (amt x))
  sum_more xs x k = total_by-append _ xs (x ∷ []) ∙ ap (plus (sum_in xs k)) (plus_zero (amount_if (test x && eq (key x) k) (amt x)))

  pub mark_is : (es fs : List (K × Amount)) (xs : List X) (x : X) (limit : ℕ) (landed : Bool) → HoldsSums R eq es (keys_in xs) (sum_in xs) → Adds R es fs limit (key x) (amt x) landed →
      landed ≡ finds_room eq limit (keys_in xs) (key x)
  mark_is es fs xs x limit landed holds adds =
      adds.lands ∙ (λ i. (ap (λ (o : Option Amount). is_some o) (holds.sums (key x)) ∙ is_some_if (has eq (keys_in xs) (key x)) (sum_in xs (key x))) i || nat_lt (holds.count i) limit)

  pub amount_is : (es : List (K × Amount)) (xs : List X) → HoldsSums R eq es (keys_in xs) (sum_in xs) → (k : K) → amount_of R es k ≡ sum_in xs k
  amount_is es xs holds k = ap (λ (o : Option Amount). unwrap_or o zero_amount) (holds.sums k) ∙ unwrap_if (has eq (keys_in xs) k) (sum_in xs k) (none_there k xs)

  other_key : (a b : K) → eq a b ≡ false → is_eq (R a b) ≡ false
  other_key a b e = sym (is b a) ∙ elim (decided (eq b a)) [
    | inl same ↦ absurd (let there : eq a b ≡ true = subst (λ (w : K). eq w b ≡ true) (h.same b a same) (h.self b) in cc)
    | inr none ↦ none
  ]

  pub holds_more : (es fs : List (K × Amount)) (xs : List X) (x : X) (limit : ℕ) (landed : Bool) → HoldsSums R eq es (keys_in xs) (sum_in xs) → Adds R es fs limit (key x) (amt x) landed → test x ≡ landed →
      HoldsSums R eq fs (keys_in (xs ++ x ∷ [])) (sum_in (xs ++ x ∷ []))
  holds_more es fs xs x limit false holds adds e =
      let keys : keys_in (xs ++ x ∷ []) ≡ keys_in xs = taken_more R eq h key test Refused 0 xs x ∙ ap (λ b. cond b (insert_once R (keys_in xs) (key x)) (keys_in xs)) e in
      let sums : (k : K) → sum_in (xs ++ x ∷ []) k ≡ sum_in xs k = λ k. sum_more xs x k ∙ ap (λ b. plus (sum_in xs k) (amount_if (b && eq (key x) k) (amt x))) e ∙ plus_zero (sum_in xs k) in
      let count = adds.count in record {
        sums = λ k. adds.sums k ∙ holds.sums k ∙ (λ i. if has eq (sym keys i) k then Some (sym (sums k) i) else None);
        count = let same : length fs ≡ length es = omega (arith, count) in same ∙ holds.count ∙ ap (λ (ks : List K). length ks) (sym keys);
      }
  holds_more es fs xs x limit true holds adds e =
      let k0 = key x in
      let old = keys_in xs in
      let keys : keys_in (xs ++ x ∷ []) ≡ insert_once R old k0 = taken_more R eq h key test Refused 0 xs x ∙ ap (λ b. cond b (insert_once R old k0) old) e in
      let sums : (k : K) → sum_in (xs ++ x ∷ []) k ≡ plus (sum_in xs k) (amount_if (eq k0 k) (amt x)) = λ k. sum_more xs x k ∙ ap (λ b. plus (sum_in xs k) (amount_if (b && eq k0 k) (amt x))) e in
      let members : (k : K) → has eq (keys_in (xs ++ x ∷ [])) k ≡ (eq k0 k || has eq old k) = λ k. ap (λ (ks : List K). has eq ks k) keys ∙ inserted_has R eq h old k0 k in
      let had : amount_of R es k0 ≡ sum_in xs k0 = ap (λ (o : Option Amount). unwrap_or o zero_amount) (holds.sums k0) ∙ unwrap_if (has eq old k0) (sum_in xs k0) (none_there k0 xs) in
      let found : is_some (find R es k0) ≡ has eq old k0 = ap (λ (o : Option Amount). is_some o) (holds.sums k0) ∙ is_some_if (has eq old k0) (sum_in xs k0) in
      record {
        sums = λ k. adds.sums k ∙ elim (decided (eq k0 k)) [
          | inl here ↦
              let same : k0 ≡ k = h.same k0 k here in
              let tells : is_eq (R k0 k) ≡ true = sym (is k k0) ∙ subst (λ (w : K). eq w k0 ≡ true) same (h.self k0) in
              ap (λ b. cond b (Some (plus (amount_of R es k0) (amt x))) (find R es k)) tells
              ∙ (λ i. Some (plus (had i) (amt x))) ∙ ap (λ (w : K). Some (plus (sum_in xs w) (amt x))) same
              ∙ sym (ap (λ b. Some (plus (sum_in xs k) (amount_if b (amt x)))) here) ∙ ap (λ (a : Amount). Some a) (sym (sums k))
              ∙ sym (ap (λ b. if b then Some (sum_in (xs ++ x ∷ []) k) else None) (members k ∙ ap (λ b. b || has eq old k) here))
          | inr none ↦
              let kept : sum_in (xs ++ x ∷ []) k ≡ sum_in xs k = sums k ∙ ap (λ b. plus (sum_in xs k) (amount_if b (amt x))) none ∙ plus_zero (sum_in xs k) in
              ap (λ b. cond b (Some (plus (amount_of R es k0) (amt x))) (find R es k)) (other_key k0 k none) ∙ holds.sums k
              ∙ (λ i. if sym (members k ∙ ap (λ b. b || has eq old k) none) i then Some (sym kept i) else None)
        ];
        count = adds.count ∙ ap (λ b. length es + cond (not b) 1 0) found ∙ (λ i. holds.count i + cond (not (has eq old k0)) 1 0)
            ∙ counted (has eq old k0) refl ∙ ap (λ (ks : List K). length ks) (sym keys);
      }
    where
      counted : (b : Bool) → has eq (keys_in xs) (key x) ≡ b → length (keys_in xs) + cond (not b) 1 0 ≡ length (insert_once R (keys_in xs) (key x))
      counted true there = sym (ap (λ (ks : List K). length ks) (inserted_there R eq h (keys_in xs) (key x) (ascending_sorted R eq h (map key (filter test xs))) there) ∙ plain (length (keys_in xs)))
        where
          plain : (n : ℕ) → n ≡ n + 0
          plain n = omega arith
      counted false none = let new = inserted_new R eq h (keys_in xs) (key x) none in omega (arith, new)
