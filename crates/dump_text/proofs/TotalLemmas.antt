-- Totals, and what is left of them; names of interfaces.
use Rattle.std.proofs.Common.{◌≡◌, ℕ, zero, suc, ◌+◌, ◌-◌, ◌≤◌, ◌<◌, ◌||◌, Bool, true, false, cond, List, [], ◌∷◌, length, take, drop, get_or, Option, Some, None, refl, sym, ap, subst, ◌∙◌, arith}
use Rattle.std.specs.Prelude.{◌==◌}
use Rattle.std.specs.List.{All, find}
use Rattle.std.specs.List.Sorted.{IsStrictlySortedBy}
use Rattle.std.specs.Ordering.{nat_cmp}
use mathlib.Core.Logic.{inl, inr}
use mathlib.Core.Bool.{true≢false}
use Rattle.acct_base.specs.declared.amount.Amount.{Amount}
use Rattle.acct_base.specs.declared.amount.Snapshot.{Snapshot}
use Rattle.acct_base.specs.Amounts.{plus, minus, zero_amount, amount_if, IsAtMost}
use Rattle.acct_base.specs.Landings.{same_number}
use Rattle.acct_base.specs.Sums.{total_at, total_keys}
use Rattle.acct_base.proofs.SumLemmas.{zero_plus}
use Rattle.acct_base.proofs.Keys.{has, decided, head_fresh, nat_agree, eqb_same, eqb_self, plus_zero, or_true}
use Rattle.shelf.specs.declared.shelf.Deletion.{Deletion}
use Rattle.shelf.specs.Shelved.{Phases}
use Rattle.shelf.specs.Phases.{recorded_app, deleted_app}
use Rattle.shelf.specs.Shown.{Shown}
use Rattle.shelf.proofs.FrontLemmas.{total_more, total_front}
use Rattle.dump_text.specs.Room.{IsCovered, AppsCoverDeletions}

-- ---- what is left of a total

deleted_more : (phases : Phases) (uid i : ℕ) (p : Snapshot × Option Deletion) → i < length phases → p ≡ get_or phases i p →
    deleted_app (take (i + 1) phases) uid ≡ plus (deleted_app (take i phases) uid) (recorded_app uid p)
deleted_more phases uid i p lt is = total_more (recorded_app uid) phases i p lt ∙ ap (λ (q : Snapshot × Option Deletion). plus (deleted_app (take i phases) uid) (recorded_app uid q)) (sym is)

fits_left : (d r more rest whole total : ℕ) → more ≡ d + r → whole ≡ more + rest → whole ≤ total → r ≤ total - d
fits_left d r more rest whole total e f le = omega (arith, e, f, le)

pub recorded_is_left : (phases : Phases) (total : Amount) (uid i : ℕ) (p : Snapshot × Option Deletion) → i < length phases → p ≡ get_or phases i p →
    IsAtMost (deleted_app phases uid) total → IsAtMost (recorded_app uid p) (minus total (deleted_app (take i phases) uid))
recorded_is_left phases total uid i p lt is covered =
    let d = deleted_app (take i phases) uid in
    let r = recorded_app uid p in
    let more = deleted_app (take (i + 1) phases) uid in
    let rest = deleted_app (drop (i + 1) phases) uid in
    let whole = deleted_app phases uid in
    let e : more ≡ plus d r = deleted_more phases uid i p lt is in
    let f : whole ≡ plus more rest = total_front (recorded_app uid) phases (i + 1) in
    record {
      rx_packets = fits_left d.rx_packets r.rx_packets more.rx_packets rest.rx_packets whole.rx_packets total.rx_packets (ap (λ (a : Amount). a.rx_packets) e) (ap (λ (a : Amount). a.rx_packets) f) covered.rx_packets;
      rx_bytes = fits_left d.rx_bytes r.rx_bytes more.rx_bytes rest.rx_bytes whole.rx_bytes total.rx_bytes (ap (λ (a : Amount). a.rx_bytes) e) (ap (λ (a : Amount). a.rx_bytes) f) covered.rx_bytes;
      tx_packets = fits_left d.tx_packets r.tx_packets more.tx_packets rest.tx_packets whole.tx_packets total.tx_packets (ap (λ (a : Amount). a.tx_packets) e) (ap (λ (a : Amount). a.tx_packets) f) covered.tx_packets;
      tx_bytes = fits_left d.tx_bytes r.tx_bytes more.tx_bytes rest.tx_bytes whole.tx_bytes total.tx_bytes (ap (λ (a : Amount). a.tx_bytes) e) (ap (λ (a : Amount). a.tx_bytes) f) covered.tx_bytes;
    }

sub_sub : (a b c : ℕ) → a - b - c ≡ a - (b + c)
sub_sub a b c = omega arith

minus_minus : (a b c : Amount) → minus (minus a b) c ≡ minus a (plus b c)
minus_minus a b c = λ i. record {
  rx_packets = sub_sub a.rx_packets b.rx_packets c.rx_packets i;
  rx_bytes = sub_sub a.rx_bytes b.rx_bytes c.rx_bytes i;
  tx_packets = sub_sub a.tx_packets b.tx_packets c.tx_packets i;
  tx_bytes = sub_sub a.tx_bytes b.tx_bytes c.tx_bytes i;
}

pub left_more : (phases : Phases) (total : Amount) (uid i : ℕ) (p : Snapshot × Option Deletion) → i < length phases → p ≡ get_or phases i p →
    minus (minus total (deleted_app (take i phases) uid)) (recorded_app uid p) ≡ minus total (deleted_app (take (i + 1) phases) uid)
left_more phases total uid i p lt is = minus_minus total (deleted_app (take i phases) uid) (recorded_app uid p) ∙ ap (minus total) (sym (deleted_more phases uid i p lt is))

-- ---- ascending totals

absent_total : (ts : List (ℕ × Amount)) (key : ℕ) → has same_number (total_keys ts) key ≡ false → total_at ts key ≡ zero_amount
absent_total [] key e = refl
absent_total (t ∷ ts) key e = elim (decided (t.0 == key)) [
  | inl same ↦ absurd (true≢false (sym (ap (λ b. b || has same_number (total_keys ts) key) same) ∙ e))
  | inr none ↦ ap (λ b. plus (amount_if b t.1) (total_at ts key)) none ∙ zero_plus (total_at ts key) ∙ absent_total ts key (sym (ap (λ b. b || has same_number (total_keys ts) key) none) ∙ e)
]

has_item : (ts : List (ℕ × Amount)) (i : ℕ) (d : ℕ × Amount) → i < length ts → has same_number (total_keys ts) (get_or ts i d).0 ≡ true
has_item [] i d lt = absurd (omega (arith, lt))
has_item (t ∷ ts) zero d lt = ap (λ b. b || has same_number (total_keys ts) t.0) (eqb_self t.0)
has_item (t ∷ ts) (suc i) d lt = ap (λ b. (t.0 == (get_or ts i d).0) || b) (has_item ts i d (omega (arith, lt))) ∙ or_true (t.0 == (get_or ts i d).0)

total_at_item : (ts : List (ℕ × Amount)) (i : ℕ) (d : ℕ × Amount) → i < length ts → IsStrictlySortedBy nat_cmp (total_keys ts) → total_at ts (get_or ts i d).0 ≡ (get_or ts i d).1
unfolding IsStrictlySortedBy
total_at_item [] i d lt s = absurd (omega (arith, lt))
total_at_item (t ∷ ts) zero d lt s =
    (λ j. plus (amount_if (eqb_self t.0 j) t.1) (absent_total ts t.0 (head_fresh nat_cmp same_number nat_agree t.0 (total_keys ts) s.0) j)) ∙ plus_zero t.1
total_at_item (t ∷ ts) (suc i) d lt s =
    let key = (get_or ts i d).0 in
    let there = has_item ts i d (omega (arith, lt)) in
    let fresh = head_fresh nat_cmp same_number nat_agree t.0 (total_keys ts) s.0 in
    let other : (t.0 == key) ≡ false = elim (decided (t.0 == key)) [
      | inl same ↦ absurd (true≢false (sym there ∙ sym (ap (has same_number (total_keys ts)) (eqb_same t.0 key same)) ∙ fresh))
      | inr none ↦ none
    ] in
    ap (λ b. plus (amount_if b t.1) (total_at ts key)) other ∙ zero_plus (total_at ts key) ∙ total_at_item ts i d (omega (arith, lt)) s.1

pub covered_apps : (r : Shown) → AppsCoverDeletions r → All (IsCovered r.phases) r.apps
covered_apps r h i d lt = subst (λ (a : Amount). IsAtMost (deleted_app r.phases (get_or r.apps i d).0) a) (total_at_item r.apps i d lt h.ascend) (h.recorded (get_or r.apps i d).0)

-- ---- the first that is found

some_none : {X : Type 0} (y : X) → Some y ≡ None → ⊥
some_none y e = absurd (cc)

pub found_first : {X : Type 0} (test : X → Bool) (xs : List X) (i : ℕ) (x : X) → i < length xs → x ≡ get_or xs i x → find test (take i xs) ≡ None → test x ≡ true → find test xs ≡ Some x
found_first test [] i x lt is none holds = absurd (omega (arith, lt))
found_first test (y ∷ ys) zero x lt is none holds = ap (λ b. cond b (Some y) (find test ys)) (sym (ap test is) ∙ holds) ∙ ap (λ z. Some z) (sym is)
found_first test (y ∷ ys) (suc i) x lt is none holds = elim (decided (test y)) [
  | inl here ↦ absurd (some_none y (sym (ap (λ b. cond b (Some y) (find test (take i ys))) here) ∙ none))
  | inr skip ↦ ap (λ b. cond b (Some y) (find test ys)) skip ∙ found_first test ys i x (omega (arith, lt)) is (sym (ap (λ b. cond b (Some y) (find test (take i ys))) skip) ∙ none) holds
]

skipped_next : {X : Type 0} (test : X → Bool) (xs : List X) (i : ℕ) (x : X) → i < length xs → x ≡ get_or xs i x → find test (take i xs) ≡ None → test x ≡ false → find test (take (suc i) xs) ≡ None
skipped_next test [] i x lt is none fails = absurd (omega (arith, lt))
skipped_next test (y ∷ ys) zero x lt is none fails = ap (λ b. cond b (Some y) None) (sym (ap test is) ∙ fails)
skipped_next test (y ∷ ys) (suc i) x lt is none fails = elim (decided (test y)) [
  | inl here ↦ absurd (some_none y (sym (ap (λ b. cond b (Some y) (find test (take i ys))) here) ∙ none))
  | inr skip ↦ ap (λ b. cond b (Some y) (find test (take (suc i) ys))) skip ∙ skipped_next test ys i x (omega (arith, lt)) is (sym (ap (λ b. cond b (Some y) (find test (take i ys))) skip) ∙ none) fails
]

pub skipped : {X : Type 0} (test : X → Bool) (xs : List X) (i : ℕ) (x : X) → i < length xs → x ≡ get_or xs i x → find test (take i xs) ≡ None → test x ≡ false → find test (take (i + 1) xs) ≡ None
skipped {X} test xs i x lt is none fails = subst (λ n. find test (take n xs) ≡ None) (next i) (skipped_next test xs i x lt is none fails)
  where
    next : (n : ℕ) → suc n ≡ n + 1
    next n = omega arith

pub other_number : (x y : ℕ) → (x ≡ y → ⊥) → (x == y) ≡ false
other_number x y differ = elim (decided (x == y)) [
  | inl same ↦ absurd (differ (eqb_same x y same))
  | inr none ↦ none
]
