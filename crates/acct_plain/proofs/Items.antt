-- A map that holds sums by ascending keys is the list of these keys with their sums.
use Rattle.std.proofs.Common.{◌≡◌, ℕ, ◌||◌, Bool, true, false, cond, List, [], ◌∷◌, map, Option, Some, None, refl, sym, ap, subst, ◌∙◌}
use Rattle.std.specs.Prelude.{is_some, if◌then◌else◌, unwrap_or}
use Rattle.std.specs.List.Sorted.{IsStrictlySortedBy}
use Rattle.std.specs.Ordering.{is_eq, nat_cmp}
use Rattle.std.specs.declared.cmp.Ordering.{Ordering}
use mathlib.Core.Logic.{inl, inr}
use Rattle.acct_base.specs.declared.amount.Amount.{Amount}
use Rattle.acct_base.specs.declared.amount.Row.{Row}
use Rattle.acct_base.specs.declared.label.Label.{Label}
use Rattle.acct_base.specs.declared.charge.Charge.{Charge}
use Rattle.acct_base.specs.Amounts.{label_cmp, same_label, zero_amount}
use Rattle.acct_base.specs.Receipts.{Add}
use Rattle.acct_base.specs.Sums.{folded, added}
use Rattle.acct_plain.specs.Serial.{rows_from, totals_from}
use Rattle.acct_base.specs.Landings.{landed_labels, landed_keys, same_number}
use Rattle.acct_plain.specs.Ledgers.{find, HoldsSums, row_of}
use Rattle.acct_base.proofs.Keys.{Agree, has, decided, head_fresh, unique, label_agree, nat_agree}
use Rattle.acct_plain.proofs.Tables.{labels_sorted, keys_sorted}
use Rattle.acct_plain.proofs.Keeping.{same_labels, same_numbers}

is_some_if : (b : Bool) (a : Amount) → is_some (if b then Some a else None) ≡ b
is_some_if true a = refl
is_some_if false a = refl

of_if : (b : Bool) (a x : Amount) → (if b then Some a else None) ≡ Some x → x ≡ a
of_if true a x e = cc
of_if false a x e = absurd (cc)

module _ {K : Type 0} (R : K → K → Ordering) (eq : K → K → Bool) (h : Agree R eq) (is : (a b : K) → eq a b ≡ is_eq (R b a)) where
  abbrev pub keys_in : List (K × Amount) → List K
  keys_in es = map (λ (e : K × Amount). e.0) es

  is_some_cond : (b : Bool) (a : Amount) (o : Option Amount) → is_some (cond b (Some a) o) ≡ (b || is_some o)
  is_some_cond true a o = refl
  is_some_cond false a o = refl

  there : (es : List (K × Amount)) (z : K) → has eq (keys_in es) z ≡ is_some (find R es z)
  there [] z = refl
  there (e ∷ es) z = (λ i. is e.0 z i || there es z i) ∙ sym (is_some_cond (is_eq (R z e.0)) e.1 (find R es z))

  own : (f : K → Amount) (es : List (K × Amount)) → IsStrictlySortedBy R (keys_in es) → ((k : K) (a : Amount) → find R es k ≡ Some a → a ≡ f k) → es ≡ map (λ (k : K). (k, f k)) (keys_in es)
  unfolding IsStrictlySortedBy
  own f [] s m = refl
  own f (e ∷ es) s m =
      let fresh = head_fresh R eq h e.0 (keys_in es) s.0 in
      let here : find R (e ∷ es) e.0 ≡ Some e.1 = ap (λ b. cond b (Some e.1) (find R es e.0)) (sym (is e.0 e.0) ∙ h.self e.0) in
      let value : e.1 ≡ f e.0 = m e.0 e.1 here in
      let rest : (k : K) (a : Amount) → find R es k ≡ Some a → a ≡ f k = λ k a found. elim (decided (eq e.0 k)) [
        | inl same ↦ absurd (
            let at : e.0 ≡ k = h.same e.0 k same in
            let gone : has eq (keys_in es) k ≡ false = subst (λ (w : K). has eq (keys_in es) w ≡ false) at fresh in
            let stays : has eq (keys_in es) k ≡ true = there es k ∙ ap (λ (o : Option Amount). is_some o) found in
            cc)
        | inr none ↦ m k a (ap (λ b. cond b (Some e.1) (find R es k)) (sym (is e.0 k) ∙ none) ∙ found)
      ] in
      λ i. (e.0, value i) ∷ own f es s.1 rest i

  items_by : (f : K → Amount) (es : List (K × Amount)) (ks : List K) → IsStrictlySortedBy R (keys_in es) → IsStrictlySortedBy R ks →
      ((k : K) → find R es k ≡ (if has eq ks k then Some (f k) else None)) → es ≡ map (λ (k : K). (k, f k)) ks
  items_by f es ks s t sums =
      let keys : keys_in es ≡ ks = unique R eq h (keys_in es) ks s t (λ z. there es z ∙ ap (λ (o : Option Amount). is_some o) (sums z) ∙ is_some_if (has eq ks z) (f z)) in
      own f es s (λ k a found. of_if (has eq ks k) (f k) a (sym (sums k) ∙ found)) ∙ ap (λ (xs : List K). map (λ (k : K). (k, f k)) xs) keys

  pub items_are : (f : K → Amount) (es : List (K × Amount)) (ks : List K) → IsStrictlySortedBy R (keys_in es) → IsStrictlySortedBy R ks → HoldsSums R eq es ks f → es ≡ map (λ (k : K). (k, f k)) ks
  items_are f es ks s t holds = items_by f es ks s t holds.sums

  whole : (o : Option Amount) → o ≡ (if is_some o then Some (unwrap_or o zero_amount) else None)
  whole None = refl
  whole (Some a) = refl

  -- entries in order with the same amounts are the same
  pub same_entries : (es fs : List (K × Amount)) → IsStrictlySortedBy R (keys_in es) → IsStrictlySortedBy R (keys_in fs) → ((k : K) → find R es k ≡ find R fs k) → es ≡ fs
  same_entries es fs s t same =
      let f : K → Amount = λ k. unwrap_or (find R es k) zero_amount in
      let holds : (k : K) → find R es k ≡ (if has eq (keys_in es) k then Some (f k) else None) = λ k.
      whole (find R es k) ∙ ap (λ b. if b then Some (f k) else None) (sym (there es k)) in
      items_by f es (keys_in es) s s holds ∙ sym (items_by f fs (keys_in es) t s (λ k. sym (same k) ∙ holds k))

rows_map : (f : Label → Amount) (ls : List Label) → map row_of (map (λ (l : Label). (l, f l)) ls) ≡ map (λ (l : Label). record { label = l; amount = f l }) ls
rows_map f [] = refl
rows_map f (l ∷ ls) = ap (λ (rows : List Row). record { label = l; amount = f l } ∷ rows) (rows_map f ls)

pub rows_are : (cs : List Charge) (n : ℕ) (es : List (Label × Amount)) → IsStrictlySortedBy label_cmp (map (λ (e : Label × Amount). e.0) es) →
    HoldsSums label_cmp same_label es (landed_labels cs n) (folded cs n) → map row_of es ≡ rows_from cs n
rows_are cs n es s holds =
    ap (λ (xs : List (Label × Amount)). map row_of xs) (items_are label_cmp same_label label_agree same_labels (folded cs n) es (landed_labels cs n) s (labels_sorted n cs) holds) ∙ rows_map (folded cs n) (landed_labels cs n)

pub totals_are : (adds : List Add) (es : List (ℕ × Amount)) → IsStrictlySortedBy nat_cmp (map (λ (e : ℕ × Amount). e.0) es) →
    HoldsSums nat_cmp same_number es (landed_keys adds) (added adds) → es ≡ totals_from adds
totals_are adds es s holds = items_are nat_cmp same_number nat_agree same_numbers (added adds) es (landed_keys adds) s (keys_sorted adds) holds
