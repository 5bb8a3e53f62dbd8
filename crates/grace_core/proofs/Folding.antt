-- The rows with both keys, in any order, are what the phase's charges add up to.
use Rattle.std.proofs.Common.{◌≡◌, ◌≢◌, ℕ, zero, suc, ◌+◌, ◌*◌, ◌<◌, ◌≤◌, false, cond, List, [], ◌∷◌, ◌++◌, length, sym, refl, ap, ◌∙◌, subst, arith, length-append, append-nil}
use mathlib.Core.Logic.{dite}
use native.Mathlib.Decide.{ℕ_discrete}
use Rattle.std.specs.Prelude.{sum_by, All, IsPermutation, Option, None, Some, MatchOption}
use Rattle.std.proofs.lemmas.List.Sums.{sum_by_push, sum_by-cons}
use Rattle.std.proofs.lemmas.List.Elements.{All-push}
use Rattle.std.proofs.lemmas.List.Sorted.{sum_by-IsPermutation, All-permutation}
use Rattle.acct_base.specs.declared.label.Label.{Label}
use Rattle.acct_base.specs.declared.amount.Row.{Row}
use Rattle.acct_base.specs.Amounts.{IsValidLabel, same_label}
use Rattle.row_probe.specs.Keys.{unpack, ArePair}
use Rattle.row_probe.proofs.Packing.{pack2-ne-zero, unpack-pack, unpack_tells}
use Rattle.grace_core.specs.Machine.{amount_of_row, row_with, row_at, rows_in}
use Rattle.grace_core.specs.Sums.{Measure, landed, packets, bytes}
use Rattle.grace_core.specs.Rows.{cell, Has, RowsAreGood, packets_in, bytes_in, row_is, row_packets, row_bytes, Folds}
use Rattle.acct_base.proofs.Keys.{label_self}
use Rattle.grace_core.proofs.Keys.{same_true}
use Rattle.grace_core.proofs.RowSteps.{one_row, yes_or_no}
use Rattle.grace_core.proofs.Weights.{on, off}

abbrev row_of : Label → List ℕ → ℕ → Row
row_of l ws i = record { label = l; amount = amount_of_row ws i }

packets_of : (l : Label) (ws : List ℕ) (i e : ℕ) → e < 2 → packets_in (row_of l ws i).amount e ≡ cell ws i (2 + 2 * e)
packets_of l ws i zero le = refl
packets_of l ws i (suc zero) le = refl
packets_of l ws i (suc (suc e)) le = absurd (omega arith)

bytes_of : (l : Label) (ws : List ℕ) (i e : ℕ) → e < 2 → bytes_in (row_of l ws i).amount e ≡ cell ws i (3 + 2 * e)
bytes_of l ws i zero le = refl
bytes_of l ws i (suc zero) le = refl
bytes_of l ws i (suc (suc e)) le = absurd (omega arith)

counts : (l : List Row) → length l ≡ sum_by (λ (r : Row). 1) l
counts [] = refl
counts (x ∷ xs) = let a = sum_by-cons (λ (r : Row). 1) x xs in let r = counts xs in omega arith

none_by : (k1 k2 : ℕ) (o : Option Label) → MatchOption o ((l : Label) → ¬ ArePair k1 k2 l) (ArePair k1 k2) → ((l : Label) → ArePair k1 k2 l → ⊥) → o ≡ None
none_by k1 k2 None h bar = refl
none_by k1 k2 (Some l) h bar = absurd (bar l h)

-- a row without a second key is none
row_empty : (ws : List ℕ) (i : ℕ) → cell ws i 1 ≡ 0 → row_at ws i ≡ []
row_empty ws i e = ap (row_with (amount_of_row ws i)) (none_by (cell ws i 0) (cell ws i 1) (unpack (cell ws i 0) (cell ws i 1)) (unpack_tells (cell ws i 0) (cell ws i 1)) (λ l p. pack2-ne-zero l p.valid (p.second ∙ e)))

-- a row with a label's keys is the label's
row_has : (ws : List ℕ) (i : ℕ) (l : Label) → IsValidLabel l → Has ws i l → row_at ws i ≡ row_of l ws i ∷ []
row_has ws i l is h = ap (row_with (amount_of_row ws i)) ((λ q. unpack (h.0 q) (h.1 q)) ∙ unpack-pack l is)

module _ (rows : ℕ) (ws : List ℕ) (sums : Measure → ℕ) (ok : RowsAreGood rows ws (λ _. 0) sums) where
  -- f counts nothing of the rows of other labels
  module _ (l : Label) (is : IsValidLabel l) (f : Row → ℕ) (none : (r : Row) → same_label r.label l ≡ false → f r ≡ 0) where
    one_more : (n : ℕ) → n < rows → (Has ws n l → ⊥) → sum_by f (rows_in (suc n) ws) ≡ sum_by f (rows_in n ws)
    one_more n ln away = dite (ℕ_discrete (cell ws n 1) 0) (λ e. ap (λ (r : List Row). sum_by f (rows_in n ws ++ r)) (row_empty ws n e) ∙ ap (sum_by f) (append-nil (rows_in n ws)))
        (λ ne. let m = ok.label n ln ne in let z : f (row_of m.0 ws n) ≡ 0 = none (row_of m.0 ws n) (yes_or_no (same_label m.0 l) (λ e. let k = same_true m.0 l e in absurd (away (m.2.0 ∙ k.0, m.2.1 ∙ k.1))) (λ e. e)) in
        ap (λ (r : List Row). sum_by f (rows_in n ws ++ r)) (row_has ws n m.0 m.1 m.2) ∙ (sum_by_push f (rows_in n ws) (row_of m.0 ws n) ∙ (let q : sum_by f (rows_in n ws) + f (row_of m.0 ws n) ≡ sum_by f (rows_in n ws) = omega arith in q)))

    absent : (n : ℕ) → n ≤ rows → ((i : ℕ) → i < n → Has ws i l → ⊥) → sum_by f (rows_in n ws) ≡ 0
    absent zero le away = refl
    absent (suc n) le away = one_more n (omega arith) (away n (omega arith)) ∙ absent n (omega arith) (λ i li h. away i (omega arith) h)

    present : (n i : ℕ) → n ≤ rows → i < n → Has ws i l → sum_by f (rows_in n ws) ≡ f (row_of l ws i)
    present zero i le li has = absurd (omega arith)
    present (suc n) i le li has = dite (ℕ_discrete i n) (λ e. let h : Has ws n l = subst (λ (z : ℕ). Has ws z l) e has in
        let z : sum_by f (rows_in n ws) ≡ 0 = absent n (omega arith) (λ j lj b. let u = one_row rows ws (λ _. 0) sums ok l j n is (omega arith) (omega arith) b h in omega arith) in
        ap (λ (r : List Row). sum_by f (rows_in n ws ++ r)) (row_has ws n l is h) ∙ (sum_by_push f (rows_in n ws) (row_of l ws n) ∙ ((let q : sum_by f (rows_in n ws) + f (row_of l ws n) ≡ f (row_of l ws n) = omega arith in q) ∙ ap (λ (y : ℕ). f (row_of l ws y)) (sym e))))
        (λ ne. one_more n (omega arith) (λ h. let u = one_row rows ws (λ _. 0) sums ok l i n is (omega arith) (omega arith) has h in ne u) ∙ present n i (omega arith) (omega arith) has)

  lengths : (n : ℕ) → n ≤ rows → ((i : ℕ) → i < n → cell ws i 1 ≢ 0) → length (rows_in n ws) ≡ n
  lengths zero le full = refl
  lengths (suc n) le full = let m = ok.label n (omega arith) (full n (omega arith)) in ap (λ (r : List Row). length (rows_in n ws ++ r)) (row_has ws n m.0 m.1 m.2)
      ∙ (let a = length-append (rows_in n ws) (row_of m.0 ws n ∷ []) in let r = lengths n (omega arith) (λ i li. full i (omega arith)) in omega arith)

  valids : (n : ℕ) → n ≤ rows → All (λ (r : Row). IsValidLabel r.label) (rows_in n ws)
  valids zero le = λ k d l. absurd (omega arith)
  valids (suc n) le = let r = valids n (omega arith) in dite (ℕ_discrete (cell ws n 1) 0)
      (λ e. subst (λ (q : List Row). All (λ (r : Row). IsValidLabel r.label) (rows_in n ws ++ q)) (sym (row_empty ws n e)) (subst (All (λ (r : Row). IsValidLabel r.label)) (sym (append-nil (rows_in n ws))) r))
      (λ ne. let m = ok.label n (omega arith) ne in subst (λ (q : List Row). All (λ (r : Row). IsValidLabel r.label) (rows_in n ws ++ q)) (sym (row_has ws n m.0 m.1 m.2))
      (All-push (λ (r : Row). IsValidLabel r.label) (rows_in n ws) (row_of m.0 ws n) r m.1))

  pub rows_valid : All (λ (r : Row). IsValidLabel r.label) (rows_in rows ws)
  rows_valid = valids rows (omega arith)

  -- no label stands in two of the rows
  pub rows_once : (l : Label) → IsValidLabel l → sum_by (row_is l) (rows_in rows ws) ≤ 1
  rows_once l is = dite (ℕ_discrete (sums (landed l)) 0)
      (λ z. let e = absent l is (row_is l) (λ r h. off (same_label r.label l) 1 h) rows (omega arith) (λ i li h. let u = ok.used i l li is h in absurd (omega arith)) in omega arith)
      (λ ne. let h = ok.placed l is (omega arith) in let e = present l is (row_is l) (λ r e. off (same_label r.label l) 1 e) rows h.0 (omega arith) h.1 h.2 in let o = on (same_label l l) 1 (label_self l) in omega arith)

  pub folds : ((l : Label) (e : ℕ) → sums (landed l) ≡ 0 → (sums (packets l e) ≡ 0) × (sums (bytes l e) ≡ 0)) → (list : List Row) → IsPermutation (rows_in rows ws) list → Folds rows list sums
  folds law list p = let off_label : (l : Label) (r : Row) (x : ℕ) → same_label r.label l ≡ false → cond (same_label r.label l) x 0 ≡ 0 = λ l r x e. off (same_label r.label l) x e in
      let none : (l : Label) → IsValidLabel l → sums (landed l) ≡ 0 → (i : ℕ) → i < rows → Has ws i l → ⊥ = λ l is z i li h. let u = ok.used i l li is h in omega arith in record {
        valid = All-permutation (λ (r : Row). IsValidLabel r.label) (rows_in rows ws) list p (valids rows (omega arith));
        once = λ l is m. let h = ok.placed l is m in sum_by-IsPermutation (row_is l) (rows_in rows ws) list p ∙ (present l is (row_is l) (λ r e. off_label l r 1 e) rows h.0 (omega arith) h.1 h.2 ∙ on (same_label l l) 1 (label_self l));
        never = λ l is z. sum_by-IsPermutation (row_is l) (rows_in rows ws) list p ∙ absent l is (row_is l) (λ r e. off_label l r 1 e) rows (omega arith) (none l is z);
        packets_are = λ l e is le. sum_by-IsPermutation (row_packets l e) (rows_in rows ws) list p ∙ dite (ℕ_discrete (sums (landed l)) 0)
            (λ z. absent l is (row_packets l e) (λ r h. off_label l r (packets_in r.amount e) h) rows (omega arith) (none l is z) ∙ sym (law l e z).0)
            (λ ne. let h = ok.placed l is (omega arith) in present l is (row_packets l e) (λ r h. off_label l r (packets_in r.amount e) h) rows h.0 (omega arith) h.1 h.2 ∙ (on (same_label l l) (packets_in (row_of l ws h.0).amount e) (label_self l)
            ∙ (packets_of l ws h.0 e le ∙ (ok.packets_are h.0 e l h.1 is h.2 le ∙ omega arith))));
        bytes_are = λ l e is le. sum_by-IsPermutation (row_bytes l e) (rows_in rows ws) list p ∙ dite (ℕ_discrete (sums (landed l)) 0)
            (λ z. absent l is (row_bytes l e) (λ r h. off_label l r (bytes_in r.amount e) h) rows (omega arith) (none l is z) ∙ sym (law l e z).1)
            (λ ne. let h = ok.placed l is (omega arith) in present l is (row_bytes l e) (λ r h. off_label l r (bytes_in r.amount e) h) rows h.0 (omega arith) h.1 h.2 ∙ (on (same_label l l) (bytes_in (row_of l ws h.0).amount e) (label_self l)
            ∙ (bytes_of l ws h.0 e le ∙ ok.bytes_are h.0 e l h.1 is h.2 le)));
        filled = λ l is m. let full : (i : ℕ) → i < rows → cell ws i 1 ≢ 0 = λ i li z. let c = ok.claimed i li (ok.filled l is m i li).0 z in omega arith in (
          (let a = counts (rows_in rows ws) in let b = counts list in let c = sum_by-IsPermutation (λ (r : Row). 1) (rows_in rows ws) list p in let d = lengths rows (omega arith) full in omega arith),
          sum_by-IsPermutation (row_is l) (rows_in rows ws) list p ∙ absent l is (row_is l) (λ r e. off_label l r 1 e) rows (omega arith) (λ i li h. let d = ok.filled l is m i li in (d.1 h.0).1 h.1),
        );
      }
