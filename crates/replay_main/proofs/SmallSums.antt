-- The sums of an honest report are small, since each of its charges and adds is, and there are few of them.
use Rattle.std.proofs.Common.{◌≡◌, ℕ, zero, suc, ◌+◌, ◌≤◌, List, [], ◌∷◌, length, refl, sym, ap, subst, ◌∙◌, arith, Option, Some, None, length-append}
use Rattle.std.proofs.lemmas.List.{length-map}
use Rattle.std.specs.Prelude.{flat_map, slice_get}
use Rattle.std.specs.List.{AllZip}
use Rattle.acct_base.specs.declared.amount.Amount.{Amount}
use Rattle.acct_base.specs.declared.amount.Snapshot.{Snapshot}
use Rattle.acct_base.specs.declared.charge.Charge.{Charge}
use Rattle.acct_base.specs.declared.label.Label.{Label}
use Rattle.acct_base.specs.declared.receipt.LineReceipt.{LineReceipt}
use Rattle.acct_base.specs.declared.register.Write.{Write}
use Rattle.acct_base.specs.declared.sizes.RegSizes.{RegSizes}
use Rattle.acct_base.specs.Amounts.{IsAtMost, amount_at, plus}
use Rattle.acct_base.specs.Receipts.{Call, charges, app_adds, iface_adds, charge_amount, add_amount}
use Rattle.acct_base.specs.Sums.{folded, lands_at, lands_on, added, total_at}
use Rattle.acct_base.proofs.SumLemmas.{amount_at-append}
use Rattle.desk_core.specs.Commands.{after_commands}
use Rattle.shelf.specs.declared.report.SectionOut.{SectionOut}
use Rattle.shelf.specs.declared.shelf.Deletion.{Deletion}
use Rattle.shelf.specs.Shelved.{Phases}
use Rattle.shelf.specs.Phases.{IsConserved, rows_of_phase, ended_rows, deleted_rows, kept_rows}
use Rattle.shelf.specs.Shown.{Shown}
use Rattle.captures.specs.Calls.{SectionCalls, Asked, IsAskedInRange}
use Rattle.captures.specs.Honest.{IsHonest, IsHonestLane, SectionsAreHonest, all_pairs, line_number, commands_of, collections}
use Rattle.acct_plain.specs.Walks.{calls_made, calls_of_sections}
use Rattle.acct_plain.proofs.Holding.{IsBelow, sum_below}
use Rattle.dump_text.specs.Dump.{receipts_of, section_receipts}
use Rattle.dump_text.specs.Room.{SumsFit}
use Rattle.replay_main.specs.Bounds.{IsSmallSum, SumsAreSmall, HonestSumsAreSmall}
use Rattle.replay_main.proofs.FewCharges.{LengthsAreCharged, all_charges_few, all_app_adds_few, all_iface_adds_few, all_charges_small, all_app_adds_small, all_iface_adds_small}
use Rattle.replay_main.proofs.Summing.{lands_before, folded_before, rows_at_most}

-- ---- bounds

small_sum : (m : ℕ) (a : Amount) → m ≤ 2097152 → IsBelow m a → IsSmallSum a
small_sum m a few h = record {
  rx_packets = omega (arith, few, h.rx_packets);
  rx_bytes = omega (arith, few, h.rx_bytes);
  tx_packets = omega (arith, few, h.tx_packets);
  tx_bytes = omega (arith, few, h.tx_bytes);
}

smaller_sum : (a b : Amount) → IsAtMost a b → IsSmallSum b → IsSmallSum a
smaller_sum a b le h = record {
  rx_packets = omega (arith, le.rx_packets, h.rx_packets);
  rx_bytes = omega (arith, le.rx_bytes, h.rx_bytes);
  tx_packets = omega (arith, le.tx_packets, h.tx_packets);
  tx_bytes = omega (arith, le.tx_bytes, h.tx_bytes);
}

first_at_most : (a b : Amount) → IsAtMost a (plus a b)
first_at_most a b = record { rx_packets = omega arith; rx_bytes = omega arith; tx_packets = omega arith; tx_bytes = omega arith }

-- ---- phases

ended_within : {X : Type 0} (xs : List X) (n : ℕ) (x : X) → slice_get xs n ≡ Some x → n ≤ length xs
ended_within [] n x e = absurd (cc)
ended_within (y ∷ ys) zero x e = omega arith
ended_within (y ∷ ys) (suc n) x e = let rest = ended_within ys n x e in omega (arith, rest)

none_behind : {X : Type 0} (xs : List X) → slice_get xs (length xs) ≡ None
none_behind [] = refl
none_behind (x ∷ xs) = none_behind xs

-- a snapshot holds no more than its phase did
snapshot_at_most : (cs : List Charge) (phases : Phases) (live : Snapshot) → IsConserved cs phases live → (l : Label) (n : ℕ) (p : Snapshot × Option Deletion) → slice_get phases n ≡ Some p
    → IsAtMost (amount_at p.0.rows l) (folded cs n l)
snapshot_at_most cs phases live conserved l n p e =
    let holds = (conserved.holds n (ended_within phases n p e)).amounts l in
    let rows : rows_of_phase phases live n ≡ ended_rows p = ap (λ (o : Option (Snapshot × Option Deletion)). elim o [ Some q ↦ ended_rows q | None ↦ live.rows ]) e in
    let same : plus (amount_at p.0.rows l) (amount_at (deleted_rows p.1) l) ≡ folded cs n l = sym (amount_at-append p.0.rows (deleted_rows p.1) l) ∙ sym (ap (λ rs. amount_at rs l) rows) ∙ holds in
    subst (IsAtMost (amount_at p.0.rows l)) same (first_at_most (amount_at p.0.rows l) (amount_at (deleted_rows p.1) l))

live_holds : (cs : List Charge) (phases : Phases) (live : Snapshot) → IsConserved cs phases live → (l : Label) → amount_at live.rows l ≡ folded cs (length phases) l
live_holds cs phases live conserved l =
    let holds = (conserved.holds (length phases) (omega arith)).amounts l in
    let rows : rows_of_phase phases live (length phases) ≡ live.rows = ap (λ (o : Option (Snapshot × Option Deletion)). elim o [ Some q ↦ ended_rows q | None ↦ live.rows ]) (none_behind phases) in
    sym (ap (λ rs. amount_at rs l) rows) ∙ holds

-- ---- receipts

lane_receipts : (known : ℕ) (journal : List Write) (from to : ℕ) (calls : List (ℕ × Call)) (rs : List (ℕ × LineReceipt)) → IsHonestLane known journal from to calls rs → length rs ≡ length calls
lane_receipts known journal from to calls rs h = sym (length-map rs line_number) ∙ ap length h.lines ∙ length-map calls line_number

lanes_receipts : (known : ℕ) (journal : List Write) (from to : ℕ) (calls : List (List (ℕ × Call))) (rs : List (List (ℕ × LineReceipt))) → AllZip (IsHonestLane known journal from to) calls rs
    → length (flat_map (λ lane. lane) rs) ≤ calls_made calls
lanes_receipts known journal from to [] [] h = omega arith
lanes_receipts known journal from to [] (r ∷ rs) h = absurd h
lanes_receipts known journal from to (c ∷ cs) [] h = absurd h
lanes_receipts known journal from to (c ∷ cs) (r ∷ rs) h =
    let here = lane_receipts known journal from to c r h.0 in
    let rest = lanes_receipts known journal from to cs rs h.1 in
    let both = length-append r (flat_map (λ lane. lane) rs) in
    omega (arith, here, rest, both)

all_receipts : (privileged : List ℕ) (sizes : RegSizes) (journal : List Write) (phase : ℕ) (ss : List SectionCalls) (os : List SectionOut) → SectionsAreHonest privileged sizes journal phase ss os
    → length (receipts_of os) ≤ calls_of_sections ss
all_receipts privileged sizes journal phase [] [] h = omega arith
all_receipts privileged sizes journal phase [] (o ∷ os) h = absurd h
all_receipts privileged sizes journal phase (s ∷ ss) [] h = absurd h
all_receipts privileged sizes journal phase (s ∷ ss) (o ∷ os) h =
    let here = lanes_receipts _ _ _ _ s.lanes o.lanes h.0.lanes in
    let rest = all_receipts privileged sizes (after_commands privileged sizes journal (commands_of s)) (phase + length (collections privileged sizes journal (commands_of s))) ss os h.1 in
    let both = length-append (section_receipts o) (receipts_of os) in
    omega (arith, here, rest, both)

-- ---- the report

module _ (charged : LengthsAreCharged) (asked : Asked) (r : Shown) (range : IsAskedInRange asked) (few : calls_of_sections asked.sections ≤ 1048576) (h : IsHonest asked r) where
  cs : List Charge
  cs = flat_map charges (all_pairs asked.sections r.sections)

  phase_small : (n : ℕ) (l : Label) → n ≤ length r.phases → IsSmallSum (amount_at (rows_of_phase r.phases r.live n) l)
  unfolding cs
  phase_small n l le =
      let bound = all_charges_few asked.sections r.sections in
      subst IsSmallSum (sym ((h.phases.conserved.holds n le).amounts l)) (small_sum (length cs) (folded cs n l) (omega (arith, bound, few)) (sum_below (lands_at n l) charge_amount cs (all_charges_small charged asked.sections r.sections range)))

  rows_small : (l : Label) → IsSmallSum (amount_at (kept_rows r.phases r.live) l)
  unfolding cs
  rows_small l =
      let bound = all_charges_few asked.sections r.sections in
      let all = folded_before cs (suc (length r.phases)) l in
      smaller_sum (amount_at (kept_rows r.phases r.live) l) all
      (rows_at_most cs r.phases r.live l (snapshot_at_most cs r.phases r.live h.phases.conserved l) (live_holds cs r.phases r.live h.phases.conserved l))
      (small_sum (length cs) all (omega (arith, bound, few)) (sum_below (lands_before (suc (length r.phases)) l) charge_amount cs (all_charges_small charged asked.sections r.sections range)))

  apps_small : (uid : ℕ) → IsSmallSum (total_at r.apps uid)
  apps_small uid =
      let adds = flat_map app_adds (all_pairs asked.sections r.sections) in
      let bound = all_app_adds_few asked.sections r.sections in
      subst IsSmallSum (sym (h.totals.apps.amounts uid)) (small_sum (length adds) (added adds uid) (omega (arith, bound, few)) (sum_below (lands_on uid) add_amount adds (all_app_adds_small charged asked.sections r.sections range)))

  ifaces_small : (iface : ℕ) → IsSmallSum (total_at r.ifaces iface)
  ifaces_small iface =
      let adds = flat_map iface_adds (all_pairs asked.sections r.sections) in
      let bound = all_iface_adds_few asked.sections r.sections in
      subst IsSmallSum (sym (h.totals.ifaces.amounts iface)) (small_sum (length adds) (added adds iface) (omega (arith, bound, few)) (sum_below (lands_on iface) add_amount adds (all_iface_adds_small charged asked.sections r.sections range)))

  all_small : SumsAreSmall r
  all_small =
      let some = all_receipts asked.privileged asked.sizes.regs [] 0 asked.sections r.sections h.lines.sections in
      record { phases = phase_small; rows = rows_small; apps = apps_small; ifaces = ifaces_small; receipts = omega (arith, some, few) }

pub honest_sums_are_small : LengthsAreCharged → HonestSumsAreSmall
honest_sums_are_small charged asked r range few h = all_small charged asked r range few h

-- such sums fit in words of 64 bits
pub small_sums_fit : (r : Shown) → SumsAreSmall r → SumsFit r
small_sums_fit r h = λ label.
    let small = h.rows label in
    record {
      rx_packets = omega (arith, small.rx_packets);
      rx_bytes = omega (arith, small.rx_bytes);
      tx_packets = omega (arith, small.tx_packets);
      tx_bytes = omega (arith, small.tx_bytes);
    }
