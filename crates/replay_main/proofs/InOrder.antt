-- Ascending rows and totals that hold what landed are the walk's lists.
use Rattle.std.proofs.Common.{◌≡◌, ℕ, List, [], ◌∷◌, length, map, refl, sym, ap, subst, ◌∙◌, Bool, true, false, Some, Option}
use Rattle.std.specs.Prelude.{◌||◌, slice_get}
use Rattle.std.specs.List.{AllByRecursion, list_any}
use Rattle.std.specs.List.Sorted.{IsStrictlySortedBy}
use Rattle.std.specs.Cmp.{both_ways}
use Rattle.std.specs.declared.cmp.Ordering.{Ordering}
use Rattle.std.specs.Ordering.{nat_cmp}
use mathlib.Core.Logic.{inl, inr}
use Rattle.acct_base.specs.declared.amount.Amount.{Amount}
use Rattle.acct_base.specs.declared.amount.Row.{Row}
use Rattle.acct_base.specs.declared.amount.Snapshot.{Snapshot}
use Rattle.acct_base.specs.declared.label.Label.{Label}
use Rattle.acct_base.specs.declared.charge.Charge.{Charge}
use Rattle.acct_base.specs.declared.sizes.Sizes.{Sizes}
use Rattle.acct_base.specs.Amounts.{label_cmp, same_label, labels_of, RowsAscend, plus, zero_amount, total_by, amount_if}
use Rattle.acct_base.specs.Receipts.{Add}
use Rattle.acct_base.specs.Sums.{lands_at, lands_on, folded, added, has_label, has_key, total_keys, HoldsCharges, AreTotals}
use Rattle.acct_base.proofs.SumLemmas.{zero_plus}
use Rattle.shelf.specs.declared.shelf.Deletion.{Deletion}
use Rattle.captures.specs.Runs.{Past, Closed}
use Rattle.acct_base.specs.Sums.{HoldsPhase}
use Rattle.shelf.specs.Phases.{IsShelved}
use Rattle.acct_base.specs.Landings.{landed_labels, landed_keys, same_number}
use Rattle.acct_plain.specs.Serial.{rows_from, totals_from}
use Rattle.std.proofs.lemmas.Bool.{and_parts, or_cases}
use Rattle.acct_base.proofs.Keys.{Agree, has, decided, or_true, plus_zero, eqb_same, label_same, all_has, head_fresh, unique, label_agree, nat_agree}
use Rattle.acct_plain.proofs.Tables.{has_landed, has_added, labels_sorted, keys_sorted}
use Rattle.replay_main.proofs.Packets.{HavePackets, labels_shown, keys_shown}

or_false : (a b : Bool) → (a || b) ≡ false → (a ≡ false) × (b ≡ false)
or_false true b e = absurd (cc)
or_false false b e = (refl, e)

-- items that each carry a key and an amount
module _ {X K : Type 0} (R : K → K → Ordering) (eq : K → K → Bool) (h : Agree R eq) (key : X → K) (amt : X → Amount) (mk : K → Amount → X) (made : (x : X) → mk (key x) (amt x) ≡ x) where
  abbrev pub sum_at : List X → K → Amount
  sum_at xs k = total_by (λ (x : X). amount_if (eq (key x) k) (amt x)) xs

  not_there : (xs : List X) (k : K) → has eq (map key xs) k ≡ false → sum_at xs k ≡ zero_amount
  not_there [] k e = refl
  not_there (x ∷ xs) k e =
      let parts = or_false (eq (key x) k) (has eq (map key xs) k) e in
      ap (λ b. plus (amount_if b (amt x)) (sum_at xs k)) parts.0 ∙ zero_plus (sum_at xs k) ∙ not_there xs k parts.1

  pub items_by : (f : K → Amount) (xs : List X) → IsStrictlySortedBy R (map key xs) → ((k : K) → has eq (map key xs) k ≡ true → sum_at xs k ≡ f k) →
      xs ≡ map (λ (k : K). mk k (f k)) (map key xs)
  unfolding IsStrictlySortedBy
  items_by f [] s m = refl
  items_by f (x ∷ xs) s m =
      let fresh = head_fresh R eq h (key x) (map key xs) s.0 in
      let whole : plus (amt x) (sum_at xs (key x)) ≡ f (key x) =
      sym (ap (λ b. plus (amount_if b (amt x)) (sum_at xs (key x))) (h.self (key x))) ∙ m (key x) (ap (λ b. b || has eq (map key xs) (key x)) (h.self (key x))) in
      let amount : amt x ≡ f (key x) = sym (plus_zero (amt x)) ∙ ap (plus (amt x)) (sym (not_there xs (key x) fresh)) ∙ whole in
      let first : x ≡ mk (key x) (f (key x)) = sym (made x) ∙ ap (mk (key x)) amount in
      let rest : (k : K) → has eq (map key xs) k ≡ true → sum_at xs k ≡ f k = λ k there.
      let other : eq (key x) k ≡ false = elim (decided (eq (key x) k)) [
        | inl here ↦ absurd (let gone : has eq (map key xs) k ≡ false = subst (λ (w : K). has eq (map key xs) w ≡ false) (h.same (key x) k here) fresh in cc)
        | inr none ↦ none
      ] in
      sym (ap (λ b. plus (amount_if b (amt x)) (sum_at xs k)) other ∙ zero_plus (sum_at xs k)) ∙ m k (ap (λ b. eq (key x) k || b) there ∙ or_true (eq (key x) k)) in
      λ i. first i ∷ items_by f xs s.1 rest i

-- what landed

any_shown : (n : ℕ) (z : Label) (rows : List Row) (cs : List Charge) → AllByRecursion (λ (c : Charge). c.landed ≡ true → c.phase ≡ n → has_label rows c.job.label ≡ true) cs →
    list_any (lands_at n z) cs ≡ true → has_label rows z ≡ true
any_shown n z rows [] a e = absurd (cc)
any_shown n z rows (c ∷ cs) a e = elim (or_cases (lands_at n z c) (list_any (lands_at n z) cs) e) [
  | inl here ↦
      let one = and_parts _ _ here in
      let two = and_parts _ _ one.0 in
      subst (λ (l : Label). has_label rows l ≡ true) (label_same c.job.label z one.1) (a.0 two.0 (eqb_same c.phase n two.1))
  | inr there ↦ any_shown n z rows cs a.1 there
]

key_shown : (z : ℕ) (totals : List (ℕ × Amount)) (adds : List Add) → AllByRecursion (λ (a : Add). a.landed ≡ true → has_key totals a.key ≡ true) adds → list_any (lands_on z) adds ≡ true → has_key totals z ≡ true
key_shown z totals [] a e = absurd (cc)
key_shown z totals (x ∷ adds) a e = elim (or_cases (lands_on z x) (list_any (lands_on z) adds) e) [
  | inl here ↦ let one = and_parts _ _ here in subst (λ (k : ℕ). has_key totals k ≡ true) (eqb_same x.key z one.1) (a.0 one.0)
  | inr there ↦ key_shown z totals adds a.1 there
]

rows_are : (cs : List Charge) (n : ℕ) (rows : List Row) → RowsAscend rows → HoldsCharges cs n rows → AllByRecursion (λ (c : Charge). c.landed ≡ true → c.phase ≡ n → has_label rows c.job.label ≡ true) cs →
    rows ≡ rows_from cs n
rows_are cs n rows asc holds shown =
    let labels : labels_of rows ≡ landed_labels cs n = unique label_cmp same_label label_agree (labels_of rows) (landed_labels cs n) asc (labels_sorted n cs)
    (λ z. both_ways (has same_label (labels_of rows) z) (has same_label (landed_labels cs n) z)
    (λ e. has_landed n z cs ∙ all_has label_cmp same_label label_agree (λ label. list_any (lands_at n label) cs ≡ true) (labels_of rows) z holds.landed e)
    (λ e. any_shown n z rows cs shown (sym (has_landed n z cs) ∙ e))) in
    items_by label_cmp same_label label_agree (λ (row : Row). row.label) (λ (row : Row). row.amount) (λ l a. record { label = l; amount = a }) (λ row. refl) (folded cs n) rows asc (λ k e. holds.amounts k)
    ∙ ap (λ (ls : List Label). map (λ (l : Label). record { label = l; amount = folded cs n l }) ls) labels

totals_are : (size : ℕ) (adds : List Add) (totals : List (ℕ × Amount)) → AreTotals size adds totals → AllByRecursion (λ (a : Add). a.landed ≡ true → has_key totals a.key ≡ true) adds → totals ≡ totals_from adds
totals_are size adds totals holds shown =
    let keys : total_keys totals ≡ landed_keys adds = unique nat_cmp same_number nat_agree (total_keys totals) (landed_keys adds) holds.ascend (keys_sorted adds)
    (λ z. both_ways (has same_number (total_keys totals) z) (has same_number (landed_keys adds) z)
    (λ e. has_added z adds ∙ all_has nat_cmp same_number nat_agree (λ key. list_any (lands_on key) adds ≡ true) (total_keys totals) z holds.landed e)
    (λ e. key_shown z totals adds shown (sym (has_added z adds) ∙ e))) in
    items_by nat_cmp same_number nat_agree (λ (t : ℕ × Amount). t.0) (λ (t : ℕ × Amount). t.1) (λ k a. (k, a)) (λ t. refl) (added adds) totals holds.ascend (λ k e. holds.amounts k)
    ∙ ap (λ (ks : List ℕ). map (λ (k : ℕ). (k, added adds k)) ks) keys

-- ---- what the tables hold at the end, as the walk lists it

-- a phase as it was before its collection divided it
pub record Gave (cs : List Charge) (n : ℕ) (p : Snapshot × Option Deletion) : Type 0 where
  pub given : Snapshot
  pub shelved : IsShelved given p
  pub phase : given.phase ≡ n
  pub rows : given.rows ≡ rows_from cs n

pub record InOrder (past : Past) (live : Snapshot) (apps ifaces : List (ℕ × Amount)) : Type 0 where
  pub gave : (n : ℕ) (p : Snapshot × Option Deletion) → slice_get past.phases n ≡ Some p → Gave past.charges n p
  pub live_phase : live.phase ≡ length past.phases
  pub live_rows : live.rows ≡ rows_from past.charges (length past.phases)
  pub apps_are : apps ≡ totals_from past.apps
  pub ifaces_are : ifaces ≡ totals_from past.ifaces

pub in_order : (sizes : Sizes) (past : Past) (live : Snapshot) (apps ifaces : List (ℕ × Amount)) → HavePackets past → Closed sizes past live apps ifaces → InOrder past live apps ifaces
in_order sizes past live apps ifaces have closed =
    let held : (n : ℕ) (s : Snapshot) → HoldsPhase sizes.rows past.charges n s → s.rows ≡ rows_from past.charges n =
    λ n s h. rows_are past.charges n s.rows h.ascend h.holds (labels_shown past.charges n s.rows have.charges h.holds) in
    record {
      gave = λ n p e. let q = closed.phases n p e in record { given = q.whole; shelved = q.shelved; phase = q.holds.phase; rows = held n q.whole q.holds };
      live_phase = closed.live_is.phase;
      live_rows = held (length past.phases) live closed.live_is;
      apps_are = totals_are sizes.apps past.apps apps closed.apps_are (keys_shown sizes.apps past.apps apps have.apps closed.apps_are);
      ifaces_are = totals_are sizes.ifaces past.ifaces ifaces closed.ifaces_are (keys_shown sizes.ifaces past.ifaces ifaces have.ifaces closed.ifaces_are);
    }
