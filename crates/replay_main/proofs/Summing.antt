-- What stands on a shelf and what is live hold at each label at most what was charged.
use Rattle.std.proofs.Common.{◌≡◌, ℕ, zero, suc, ◌+◌, List, [], ◌∷◌, length, refl, sym, ap, subst, ◌∙◌, arith, Option, Some, Bool, true, false}
use Rattle.std.specs.Prelude.{◌==◌, ◌&&◌, ◌||◌, nat_lt, slice_get}
use Rattle.std.proofs.lemmas.Bool.Decides.{nat_tests}
use Rattle.acct_base.specs.declared.amount.Amount.{Amount}
use Rattle.acct_base.specs.declared.amount.Snapshot.{Snapshot}
use Rattle.acct_base.specs.declared.charge.Charge.{Charge}
use Rattle.acct_base.specs.declared.label.Label.{Label}
use Rattle.acct_base.specs.Amounts.{IsAtMost, amount_at, amount_if, plus, same_label, total_by, zero_amount}
use Rattle.acct_base.specs.Receipts.{charge_amount}
use Rattle.acct_base.specs.Sums.{folded, lands_at}
use Rattle.acct_base.proofs.SumLemmas.{amount_at-append, zero_plus}
use Rattle.acct_base.proofs.Keys.{plus_zero}
use Rattle.shelf.specs.declared.shelf.Deletion.{Deletion}
use Rattle.shelf.specs.Shelved.{Phases}
use Rattle.shelf.specs.Phases.{snapshot_rows, kept_rows}

pub at_most_is : (a b : Amount) → a ≡ b → IsAtMost a b
at_most_is a b e = subst (IsAtMost a) e (record { rx_packets = omega arith; rx_bytes = omega arith; tx_packets = omega arith; tx_bytes = omega arith })

-- The charge landed at this label in a phase before this one.
abbrev pub lands_before : ℕ → Label → Charge → Bool
lands_before phase l c = c.landed && nat_lt c.phase phase && same_label c.job.label l

-- The sum of the charges that did.
abbrev pub folded_before : List Charge → ℕ → Label → Amount
folded_before cs phase l = total_by (λ (c : Charge). amount_if (lands_before phase l c) (charge_amount c)) cs

either_counts : (x s t y : Bool) (a : Amount) → (s && t) ≡ false → plus (amount_if (x && s && y) a) (amount_if (x && t && y) a) ≡ amount_if (x && (s || t) && y) a
either_counts false s t y a e = zero_plus zero_amount
either_counts true true true y a e = absurd (cc)
either_counts true true false y a e = plus_zero (amount_if y a)
either_counts true false t y a e = zero_plus (amount_if (t && y) a)

not_both : (p k : ℕ) → (nat_lt p k && p == k) ≡ false
not_both p k = grind (arith, nat_tests)

one_later : (p k : ℕ) → nat_lt p (suc k) ≡ (nat_lt p k || p == k)
one_later p k = grind (arith, nat_tests)

regroup : (a b c d : Amount) → plus (plus a b) (plus c d) ≡ plus (plus a c) (plus b d)
regroup a b c d = λ i. record {
  rx_packets = four a.rx_packets b.rx_packets c.rx_packets d.rx_packets i;
  rx_bytes = four a.rx_bytes b.rx_bytes c.rx_bytes d.rx_bytes i;
  tx_packets = four a.tx_packets b.tx_packets c.tx_packets d.tx_packets i;
  tx_bytes = four a.tx_bytes b.tx_bytes c.tx_bytes d.tx_bytes i;
}
  where
    four : (a b c d : ℕ) → a + b + (c + d) ≡ a + c + (b + d)
    four a b c d = omega arith

-- a phase more
folded_more : (cs : List Charge) (k : ℕ) (l : Label) → plus (folded_before cs k l) (folded cs k l) ≡ folded_before cs (suc k) l
folded_more [] k l = zero_plus zero_amount
folded_more (c ∷ cs) k l =
    let one = either_counts c.landed (nat_lt c.phase k) (c.phase == k) (same_label c.job.label l) (charge_amount c) (not_both c.phase k)
    ∙ ap (λ b. amount_if (c.landed && b && same_label c.job.label l) (charge_amount c)) (sym (one_later c.phase k)) in
    regroup (amount_if (lands_before k l c) (charge_amount c)) (folded_before cs k l) (amount_if (lands_at k l c) (charge_amount c)) (folded cs k l)
    ∙ (λ i. plus (one i) (folded_more cs k l i))

-- a phase's rows behind those before, and the rows of later ones
next_phase : (x y a b all : Amount) → IsAtMost a y → IsAtMost (plus (plus x y) b) all → IsAtMost (plus x (plus a b)) all
next_phase x y a b all h g = record {
  rx_packets = omega (arith, h.rx_packets, g.rx_packets);
  rx_bytes = omega (arith, h.rx_bytes, g.rx_bytes);
  tx_packets = omega (arith, h.tx_packets, g.tx_packets);
  tx_bytes = omega (arith, h.tx_bytes, g.tx_bytes);
}

-- Snapshots of the phases from this one on hold at a label at most what landed there in these phases.
snapshots_at_most : (cs : List Charge) (k : ℕ) (phases : Phases) (l : Label) → ((n : ℕ) (p : Snapshot × Option Deletion) → slice_get phases n ≡ Some p → IsAtMost (amount_at p.0.rows l) (folded cs (k + n) l)) →
    IsAtMost (plus (folded_before cs k l) (amount_at (snapshot_rows phases) l)) (folded_before cs (k + length phases) l)
snapshots_at_most cs k [] l h =
    let same : k ≡ k + 0 = omega arith in
    at_most_is (plus (folded_before cs k l) zero_amount) (folded_before cs (k + 0) l) (plus_zero (folded_before cs k l) ∙ ap (λ m. folded_before cs m l) same)
snapshots_at_most cs k (p ∷ ps) l h =
    let same : suc k + length ps ≡ k + length (p ∷ ps) = omega arith in
    let here : k + 0 ≡ k = omega arith in
    let shift : (n : ℕ) → k + suc n ≡ suc k + n = λ n. omega arith in
    let rest = snapshots_at_most cs (suc k) ps l (λ n q e. subst (λ m. IsAtMost (amount_at q.0.rows l) (folded cs m l)) (shift n) (h (suc n) q e)) in
    let all = folded_before cs (k + length (p ∷ ps)) l in
    subst (λ (a : Amount). IsAtMost (plus (folded_before cs k l) a) all) (sym (amount_at-append p.0.rows (snapshot_rows ps) l))
    (next_phase (folded_before cs k l) (folded cs k l) (amount_at p.0.rows l) (amount_at (snapshot_rows ps) l) all
    (subst (λ m. IsAtMost (amount_at p.0.rows l) (folded cs m l)) here (h zero p refl))
    (subst (λ (x : Amount × ℕ). IsAtMost (plus x.0 (amount_at (snapshot_rows ps) l)) (folded_before cs x.1 l)) (λ i. (sym (folded_more cs k l) i, same i)) rest))

with_live : (x a b y all : Amount) → IsAtMost (plus x a) y → plus y b ≡ all → IsAtMost (plus a b) all
with_live x a b y all h e = subst (IsAtMost (plus a b)) e (record {
  rx_packets = omega (arith, h.rx_packets);
  rx_bytes = omega (arith, h.rx_bytes);
  tx_packets = omega (arith, h.tx_packets);
  tx_bytes = omega (arith, h.tx_bytes);
})

-- All rows together hold at a label no more than all charges did.
pub rows_at_most : (cs : List Charge) (phases : Phases) (live : Snapshot) (l : Label) →
    ((n : ℕ) (p : Snapshot × Option Deletion) → slice_get phases n ≡ Some p → IsAtMost (amount_at p.0.rows l) (folded cs n l)) →
    amount_at live.rows l ≡ folded cs (length phases) l → IsAtMost (amount_at (kept_rows phases live) l) (folded_before cs (suc (length phases)) l)
rows_at_most cs shelf live l shelved live_is =
    let now = length shelf in
    let from_zero : (n : ℕ) → n ≡ 0 + n = λ n. omega arith in
    let phases = snapshots_at_most cs 0 shelf l (λ n p e. subst (λ m. IsAtMost (amount_at p.0.rows l) (folded cs m l)) (from_zero n) (shelved n p e)) in
    let below = subst (λ m. IsAtMost (plus (folded_before cs 0 l) (amount_at (snapshot_rows shelf) l)) (folded_before cs m l)) (sym (from_zero now)) phases in
    let total : plus (folded_before cs now l) (amount_at live.rows l) ≡ folded_before cs (suc now) l =
    ap (plus (folded_before cs now l)) live_is ∙ folded_more cs now l in
    subst (λ (a : Amount). IsAtMost a (folded_before cs (suc now) l)) (sym (amount_at-append (snapshot_rows shelf) live.rows l))
    (with_live (folded_before cs 0 l) (amount_at (snapshot_rows shelf) l) (amount_at live.rows l) (folded_before cs now l) (folded_before cs (suc now) l) below total)
