-- What the tests try of a report, and what follows from it: that it has a dump.
use Rattle.std.proofs.Common.{◌≡◌, ℕ, ◌+◌, ◌≤◌, ◌<◌, Bool, true, false, List, [], ◌∷◌, ◌++◌, length, take, get_or, Option, Some, None, refl, sym, ap, subst, ◌∙◌, arith}
use Rattle.std.specs.Prelude.{◌==◌, IfSome, unwrap_or}
use Rattle.std.specs.List.{AllByRecursion}
use Rattle.std.specs.List.Sorted.{IsStrictlySortedBy}
use Rattle.std.specs.Cmp.{nat_cmp_is}
use Rattle.std.specs.Ordering.{nat_cmp}
use Rattle.std.specs.declared.cmp.Ordering.TheVariants.{Less}
use Rattle.std.proofs.lemmas.List.{take_more, map-append}
use mathlib.Core.Logic.{◌⊎◌, inl, inr}
use Rattle.acct_base.specs.declared.amount.Amount.{Amount}
use Rattle.acct_base.specs.declared.amount.Row.{Row}
use Rattle.acct_base.specs.declared.amount.Snapshot.{Snapshot}
use Rattle.acct_base.specs.declared.label.Label.{Label}
use Rattle.acct_base.specs.Amounts.{HasRoom, IsAtMost, plus, zero_amount, total_by, amount_at, amount_if, same_label}
use Rattle.acct_base.specs.Sums.{total_keys}
use Rattle.acct_base.proofs.SumLemmas.{total_by-append, zero_plus}
use Rattle.acct_base.proofs.Keys.{decided, eqb_same, plus_zero}
use Rattle.shelf.specs.declared.shelf.Deletion.{Deletion}
use Rattle.shelf.specs.Shelved.{Phases}
use Rattle.shelf.specs.Phases.{snapshot_rows, kept_rows, recorded_app, deleted_app}
use Rattle.shelf.proofs.FrontLemmas.{total_more}
use Rattle.shelf.proofs.MergeLemmas.{snapshots_more}

-- ---- a label's rows come to no more than all rows do

abbrev pub all_amounts : List Row → Amount
all_amounts rows = total_by (λ (row : Row). row.amount) rows

zero_at_most : (a : Amount) → IsAtMost zero_amount a
zero_at_most a = record { rx_packets = omega arith; rx_bytes = omega arith; tx_packets = omega arith; tx_bytes = omega arith }

if_at_most : (b : Bool) (a : Amount) → IsAtMost (amount_if b a) a
if_at_most true a = record { rx_packets = omega arith; rx_bytes = omega arith; tx_packets = omega arith; tx_bytes = omega arith }
if_at_most false a = zero_at_most a

both_at_most : (a b c d : Amount) → IsAtMost a b → IsAtMost c d → IsAtMost (plus a c) (plus b d)
both_at_most a b c d p q = record {
  rx_packets = omega (arith, p.rx_packets, q.rx_packets);
  rx_bytes = omega (arith, p.rx_bytes, q.rx_bytes);
  tx_packets = omega (arith, p.tx_packets, q.tx_packets);
  tx_bytes = omega (arith, p.tx_bytes, q.tx_bytes);
}

at_most_all : (rows : List Row) (label : Label) → IsAtMost (amount_at rows label) (all_amounts rows)
at_most_all [] label = zero_at_most zero_amount
at_most_all (r ∷ rows) label =
    both_at_most (amount_if (same_label r.label label) r.amount) r.amount (amount_at rows label) (all_amounts rows) (if_at_most (same_label r.label label) r.amount) (at_most_all rows label)

room_within : (a b : Amount) → IsAtMost a b → HasRoom b → HasRoom a
room_within a b p room = record {
  rx_packets = omega (arith, p.rx_packets, room.rx_packets);
  rx_bytes = omega (arith, p.rx_bytes, room.rx_bytes);
  tx_packets = omega (arith, p.tx_packets, room.tx_packets);
  tx_bytes = omega (arith, p.tx_bytes, room.tx_bytes);
}

pub snapshot_amounts_more : (phases : Phases) (i : ℕ) (p : Snapshot × Option Deletion) → i < length phases → p ≡ get_or phases i p →
    plus (all_amounts (snapshot_rows (take i phases))) (all_amounts p.0.rows) ≡ all_amounts (snapshot_rows (take (i + 1) phases))
snapshot_amounts_more phases i p lt is =
    sym (ap (λ (rows : List Row). all_amounts rows) (snapshots_more phases i p lt is) ∙ total_by-append (λ (row : Row). row.amount) (snapshot_rows (take i phases)) p.0.rows)

pub sums_have_room : (phases : Phases) (live : Snapshot) (ended all sum : Amount) → ended ≡ all_amounts (snapshot_rows phases) → all ≡ plus ended (all_amounts live.rows) →
    sum ≡ plus all zero_amount → HasRoom sum → (label : Label) → HasRoom (amount_at (kept_rows phases live) label)
sums_have_room phases live ended all sum e a s room label =
    let whole : sum ≡ all_amounts (kept_rows phases live) =
    s ∙ plus_zero all ∙ a ∙ ap (λ (x : Amount). plus x (all_amounts live.rows)) e ∙ sym (total_by-append (λ (row : Row). row.amount) (snapshot_rows phases) live.rows) in
    room_within (amount_at (kept_rows phases live) label) (all_amounts (kept_rows phases live)) (at_most_all (kept_rows phases live) label)
    (subst (λ (x : Amount). HasRoom x) whole room)

-- ---- what is true of the uid of each deletion, and where nothing was recorded, is true of each uid

of_deletion_or_none : (Q : ℕ → Type 0) (phases : Phases) (uid : ℕ) → AllByRecursion (λ (p : Snapshot × Option Deletion). IfSome p.1 (λ d. Q d.uid)) phases →
    Q uid ⊎ (deleted_app phases uid ≡ zero_amount)
of_deletion_or_none Q [] uid a = inr refl
of_deletion_or_none Q ((s, None) ∷ ps) uid a = elim (of_deletion_or_none Q ps uid a.1) [
  | inl q ↦ inl q
  | inr e ↦ inr (zero_plus (deleted_app ps uid) ∙ e)
]
of_deletion_or_none Q ((s, Some d) ∷ ps) uid a = elim (decided (d.uid == uid)) [
  | inl same ↦ inl (subst Q (eqb_same d.uid uid same) a.0)
  | inr other ↦ elim (of_deletion_or_none Q ps uid a.1) [
    | inl q ↦ inl q
    | inr e ↦ inr (ap (λ b. plus (amount_if b (unwrap_or d.app zero_amount)) (deleted_app ps uid)) other ∙ zero_plus (deleted_app ps uid) ∙ e)
  ]
]

pub recorded_more : (phases : Phases) (uid i : ℕ) (p : Snapshot × Option Deletion) → i < length phases → p ≡ get_or phases i p →
    plus (deleted_app (take i phases) uid) (recorded_app uid p) ≡ deleted_app (take (i + 1) phases) uid
recorded_more phases uid i p lt is =
    sym (total_more (recorded_app uid) phases i p lt ∙ ap (λ (q : Snapshot × Option Deletion). plus (deleted_app (take i phases) uid) (recorded_app uid q)) (sym is))

pub all_covered : (phases : Phases) (held : ℕ → Amount) → AllByRecursion (λ (p : Snapshot × Option Deletion). IfSome p.1 (λ d. IsAtMost (deleted_app phases d.uid) (held d.uid))) phases →
    (uid : ℕ) → IsAtMost (deleted_app phases uid) (held uid)
all_covered phases held a uid = elim (of_deletion_or_none (λ u. IsAtMost (deleted_app phases u) (held u)) phases uid a) [
  | inl q ↦ q
  | inr e ↦ subst (λ (x : Amount). IsAtMost x (held uid)) (sym e) (zero_at_most (held uid))
]

-- ---- uids that ascend

all_push : (P : ℕ → Type 0) (xs : List ℕ) (x : ℕ) → AllByRecursion P xs → P x → AllByRecursion P (xs ++ x ∷ [])
all_push P [] x a p = (p, tt)
all_push P (y ∷ ys) x a p = (a.0, all_push P ys x a.1 p)

all_below : (xs : List ℕ) (a b : ℕ) → a ≤ b → AllByRecursion (λ x. x < a) xs → AllByRecursion (λ x. x < b) xs
all_below [] a b le all = tt
all_below (x ∷ xs) a b le all = (let below = all.0 in omega (arith, le, below), all_below xs a b le all.1)

sorted_push : (xs : List ℕ) (x : ℕ) → IsStrictlySortedBy nat_cmp xs → AllByRecursion (λ y. y < x) xs → IsStrictlySortedBy nat_cmp (xs ++ x ∷ [])
unfolding IsStrictlySortedBy
sorted_push [] x s b = (tt, tt)
sorted_push (y ∷ ys) x s b = (all_push (λ z. nat_cmp y z ≡ Less) ys x s.0 (sym (nat_cmp_is y x Less b.0)), sorted_push ys x s.1 b.1)

-- The uids of the first totals ascend, and are below the least that the next one may be.
pub record AscendBelow (totals : List (ℕ × Amount)) (i least : ℕ) : Type 0 where
  pub sorted : IsStrictlySortedBy nat_cmp (total_keys (take i totals))
  pub below : AllByRecursion (λ uid. uid < least) (total_keys (take i totals))

pub ascend_none : (totals : List (ℕ × Amount)) → AscendBelow totals 0 0
unfolding IsStrictlySortedBy
ascend_none totals = record { sorted = tt; below = tt }

pub ascend_more : (totals : List (ℕ × Amount)) (i least : ℕ) (d : ℕ × Amount) (next : ℕ) → i < length totals → AscendBelow totals i least →
    least ≤ (get_or totals i d).0 → next ≡ (get_or totals i d).0 + 1 → AscendBelow totals (i + 1) next
ascend_more totals i least d next lt h le e =
    let uid = (get_or totals i d).0 in
    let keys = total_keys (take i totals) in
    let more : keys ++ uid ∷ [] ≡ total_keys (take (i + 1) totals) = sym (ap (λ (ts : List (ℕ × Amount)). total_keys ts) (take_more totals i d lt) ∙ map-append (λ (t : ℕ × Amount). t.0) (take i totals) (get_or totals i d ∷ [])) in
    record {
      sorted = subst (λ (ks : List ℕ). IsStrictlySortedBy nat_cmp ks) more (sorted_push keys uid h.sorted (all_below keys least uid le h.below));
      below = subst (λ (ks : List ℕ). AllByRecursion (λ u. u < next) ks) more (all_push (λ u. u < next) keys uid (all_below keys least next (omega (arith, le, e)) h.below) (omega (arith, e)));
    }
