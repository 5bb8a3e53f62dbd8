-- The rows and totals that the walk lists hold what landed.
use Rattle.std.proofs.Common.{◌≡◌, ℕ, List, [], ◌∷◌, length, map, refl, sym, ap, subst, ◌∙◌, Bool, true, false}
use Rattle.std.specs.Prelude.{◌==◌, ◌&&◌, ◌||◌, filter, cond}
use Rattle.std.specs.List.{AllByRecursion, list_any, IsDistinct}
use Rattle.std.specs.List.Sorted.{IsStrictlySortedBy}
use Rattle.std.specs.Ordering.{nat_cmp}
use Rattle.std.proofs.lemmas.List.{length-map}
use Rattle.acct_base.specs.declared.amount.Amount.{Amount}
use Rattle.acct_base.specs.declared.amount.Row.{Row}
use Rattle.acct_base.specs.declared.label.Label.{Label}
use Rattle.acct_base.specs.declared.charge.Charge.{Charge}
use Rattle.acct_base.specs.Amounts.{label_cmp, same_label, labels_of, IsValidLabel, plus, zero_amount, total_by, amount_if}
use Rattle.acct_base.specs.Receipts.{Add, charge_amount, add_amount}
use Rattle.acct_base.specs.Sums.{lands_at, lands_on, folded, added, has_key, total_keys, FullWasMet, AreTotals, HoldsPhase}
use Rattle.acct_base.proofs.SumLemmas.{zero_plus}
use Rattle.captures.proofs.Lists.{all_filter}
use Rattle.acct_plain.specs.Serial.{rows_from, totals_from}
use Rattle.acct_base.specs.Landings.{landed_labels, landed_keys, same_number}
use Rattle.acct_base.specs.Landings.{LandInTurn, AddInTurn}
use Rattle.acct_base.proofs.Keys.{has, ascending_has, ascending_sorted, ascending_all, all_from_has, distinct_from_sorted, sum_at_key, label_agree, nat_agree}
use Rattle.acct_plain.proofs.Turns.{IsFull, PhaseFacts, AddFacts, NotLanded, in_phase, facts_none, charges_facts, adds_facts}

all_map : {X Y : Type 0} (P : Y → Type 0) (f : X → Y) (xs : List X) → AllByRecursion (λ x. P (f x)) xs → AllByRecursion P (map f xs)
all_map P f [] h = tt
all_map P f (x ∷ xs) h = (h.0, all_map P f xs h.1)

pub total_map : {X Y : Type 0} (f : Y → Amount) (g : X → Y) (xs : List X) → total_by f (map g xs) ≡ total_by (λ x. f (g x)) xs
total_map f g [] = refl
total_map f g (x ∷ xs) = ap (plus (f (g x))) (total_map f g xs)

or_false : (a b : Bool) → (a || b) ≡ false → (a ≡ false) × (b ≡ false)
or_false true b e = absurd (cc)
or_false false b e = (refl, e)

-- what is nowhere comes to nothing
pub none_total : {X : Type 0} (p : X → Bool) (f : X → Amount) (xs : List X) → list_any p xs ≡ false → total_by (λ x. amount_if (p x) (f x)) xs ≡ zero_amount
none_total p f [] e = refl
none_total p f (x ∷ xs) e =
    let parts = or_false (p x) (list_any p xs) e in
    ap (λ b. plus (amount_if b (f x)) (total_by (λ x. amount_if (p x) (f x)) xs)) parts.0 ∙ zero_plus _ ∙ none_total p f xs parts.1

-- a sum where the key is listed is the whole sum
only_there : (b : Bool) (a : Amount) → (b ≡ false → a ≡ zero_amount) → amount_if b a ≡ a
only_there true a f = refl
only_there false a f = sym (f refl)

-- ---- rows

labels_from : (f : Label → Amount) (ls : List Label) → labels_of (map (λ (l : Label). record { label = l; amount = f l }) ls) ≡ ls
labels_from f [] = refl
labels_from f (l ∷ ls) = ap (λ (xs : List Label). l ∷ xs) (labels_from f ls)

any_landed : (n : ℕ) (z : Label) (cs : List Charge) →
    has same_label (map (λ (c : Charge). c.job.label) (filter (in_phase n) cs)) z ≡ list_any (lands_at n z) cs
any_landed n z [] = refl
any_landed n z (c ∷ cs) =
    elim (in_phase n c) as (λ b.
    has same_label (map (λ (c : Charge). c.job.label) (cond b (c ∷ filter (in_phase n) cs) (filter (in_phase n) cs))) z
    ≡ ((b && same_label c.job.label z) || list_any (lands_at n z) cs)) [
      | true ↦ ap (λ b. same_label c.job.label z || b) (any_landed n z cs)
      | false ↦ any_landed n z cs
    ]

pub has_landed : (n : ℕ) (z : Label) (cs : List Charge) → has same_label (landed_labels cs n) z ≡ list_any (lands_at n z) cs
has_landed n z cs = ascending_has label_cmp same_label label_agree (map (λ (c : Charge). c.job.label) (filter (in_phase n) cs)) z ∙ any_landed n z cs

pub labels_sorted : (n : ℕ) (cs : List Charge) → IsStrictlySortedBy label_cmp (landed_labels cs n)
labels_sorted n cs = ascending_sorted label_cmp same_label label_agree (map (λ (c : Charge). c.job.label) (filter (in_phase n) cs))

full_rows : (size n : ℕ) (all cs : List Charge) → AllByRecursion (λ (c : Charge). NotLanded n c → IsFull label_cmp same_label label_agree (λ (c : Charge). c.job.label) (in_phase n) (NotLanded n) size all c.job.label) cs →
    FullWasMet size cs n (rows_from all n)
full_rows size n all [] h = tt
full_rows size n all (c ∷ cs) h = (
  λ phase full.
      let shown = h.0 (record { phase = phase; full = full }) in (
        length-map (landed_labels all n) (λ (l : Label). record { label = l; amount = folded all n l }) ∙ shown.long,
        ap (λ (ls : List Label). list_any (λ l. same_label l c.job.label) ls) (labels_from (folded all n) (landed_labels all n)) ∙ shown.other,
      ),
  full_rows size n all cs h.1,
)

pub phase_holds : (size n : ℕ) (cs : List Charge) → AllByRecursion (λ (c : Charge). IsValidLabel c.job.label) cs → LandInTurn size [] cs →
    HoldsPhase size cs n (record { phase = n; rows = rows_from cs n })
phase_holds size n cs valid turns =
    let ls = landed_labels cs n in
    let labels : labels_of (rows_from cs n) ≡ ls = labels_from (folded cs n) ls in
    let sorted = labels_sorted n cs in
    let facts : PhaseFacts size n cs = charges_facts size n [] cs (facts_none label_cmp same_label label_agree (λ (c : Charge). c.job.label) (in_phase n) (NotLanded n) size) turns in
    record {
      phase = refl;
      ascend = subst (IsStrictlySortedBy label_cmp) (sym labels) sorted;
      holds = record {
        amounts = λ label. total_map (λ (row : Row). amount_if (same_label row.label label) row.amount) (λ (l : Label). record { label = l; amount = folded cs n l }) ls
            ∙ sum_at_key label_cmp same_label label_agree (folded cs n) ls label sorted
            ∙ only_there (has same_label ls label) (folded cs n label) (λ e. none_total (lands_at n label) charge_amount cs (sym (has_landed n label cs) ∙ e));
        valid = subst (AllByRecursion IsValidLabel) (sym labels)
            (ascending_all label_cmp same_label label_agree IsValidLabel _ (all_map IsValidLabel (λ (c : Charge). c.job.label) (filter (in_phase n) cs) (all_filter (λ (c : Charge). IsValidLabel c.job.label) (in_phase n) cs valid)));
        distinct = subst (IsDistinct same_label) (sym labels) (distinct_from_sorted label_cmp same_label label_agree ls sorted);
        landed = subst (AllByRecursion (λ label. list_any (lands_at n label) cs ≡ true)) (sym labels)
            (all_from_has label_cmp same_label label_agree (λ label. list_any (lands_at n label) cs ≡ true) ls (λ z e. sym (has_landed n z cs) ∙ e));
      };
      full = full_rows size n cs cs facts.shown;
    }

-- ---- totals

keys_from : (f : ℕ → Amount) (ks : List ℕ) → total_keys (map (λ (k : ℕ). (k, f k)) ks) ≡ ks
keys_from f [] = refl
keys_from f (k ∷ ks) = ap (λ (xs : List ℕ). k ∷ xs) (keys_from f ks)

key_landed : (z : ℕ) (adds : List Add) → has same_number (map (λ (a : Add). a.key) (filter (λ (a : Add). a.landed) adds)) z ≡ list_any (lands_on z) adds
key_landed z [] = refl
key_landed z (a ∷ adds) =
    elim a.landed as (λ b. has same_number (map (λ (a : Add). a.key) (cond b (a ∷ filter (λ (a : Add). a.landed) adds) (filter (λ (a : Add). a.landed) adds))) z
    ≡ ((b && a.key == z) || list_any (lands_on z) adds)) [
      | true ↦ ap (λ b. (a.key == z) || b) (key_landed z adds)
      | false ↦ key_landed z adds
    ]

pub has_added : (z : ℕ) (adds : List Add) → has same_number (landed_keys adds) z ≡ list_any (lands_on z) adds
has_added z adds = ascending_has nat_cmp same_number nat_agree (map (λ (a : Add). a.key) (filter (λ (a : Add). a.landed) adds)) z ∙ key_landed z adds

pub keys_sorted : (adds : List Add) → IsStrictlySortedBy nat_cmp (landed_keys adds)
keys_sorted adds = ascending_sorted nat_cmp same_number nat_agree (map (λ (a : Add). a.key) (filter (λ (a : Add). a.landed) adds))

full_totals : (size : ℕ) (all adds : List Add) → AllByRecursion (λ (a : Add). a.landed ≡ false → IsFull nat_cmp same_number nat_agree (λ (a : Add). a.key) (λ (a : Add). a.landed) (λ (a : Add). a.landed ≡ false) size all a.key) adds →
    AllByRecursion (λ (a : Add). a.landed ≡ false → (length (totals_from all) ≡ size) × (has_key (totals_from all) a.key ≡ false)) adds
full_totals size all [] h = tt
full_totals size all (a ∷ adds) h = (
  λ full.
      let shown = h.0 full in (
        length-map (landed_keys all) (λ (k : ℕ). (k, added all k)) ∙ shown.long,
        ap (λ (ks : List ℕ). list_any (λ k. k == a.key) ks) (keys_from (added all) (landed_keys all)) ∙ shown.other,
      ),
  full_totals size all adds h.1,
)

pub totals_hold : (size : ℕ) (adds : List Add) → AddInTurn size [] adds → AreTotals size adds (totals_from adds)
totals_hold size adds turns =
    let ks = landed_keys adds in
    let keys : total_keys (totals_from adds) ≡ ks = keys_from (added adds) ks in
    let sorted = keys_sorted adds in
    let facts : AddFacts size adds = adds_facts size [] adds (facts_none nat_cmp same_number nat_agree (λ (a : Add). a.key) (λ (a : Add). a.landed) (λ (a : Add). a.landed ≡ false) size) turns in
    record {
      amounts = λ key. total_map (λ (t : ℕ × Amount). amount_if (t.0 == key) t.1) (λ (k : ℕ). (k, added adds k)) ks
          ∙ sum_at_key nat_cmp same_number nat_agree (added adds) ks key sorted
          ∙ only_there (has same_number ks key) (added adds key) (λ e. none_total (lands_on key) add_amount adds (sym (has_added key adds) ∙ e));
      ascend = subst (IsStrictlySortedBy nat_cmp) (sym keys) sorted;
      landed = subst (AllByRecursion (λ key. list_any (lands_on key) adds ≡ true)) (sym keys)
          (all_from_has nat_cmp same_number nat_agree (λ key. list_any (lands_on key) adds ≡ true) ks (λ z e. sym (has_added z adds) ∙ e));
      full = full_totals size adds adds facts.shown;
    }
