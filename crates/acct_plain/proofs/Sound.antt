-- What is true of all that happened, after each step of the walk.
use Rattle.std.proofs.Common.{◌≡◌, ℕ, zero, suc, ◌+◌, ◌-◌, ◌≤◌, ◌<◌, List, [], ◌∷◌, ◌++◌, length, map, refl, sym, ap, subst, ◌∙◌, arith, Option, Some, Bool, true, false, append-nil, length-append, inl, inr}
use Rattle.std.specs.Prelude.{◌==◌, ◌&&◌, if◌then◌else◌, cond, slice_get, filter}
use Rattle.std.specs.List.{AllByRecursion}
use Rattle.std.proofs.lemmas.Bool.{cases_lt}
use Rattle.std.proofs.lemmas.List.Elements.{filter-append}
use Rattle.acct_base.specs.declared.amount.Amount.{Amount}
use Rattle.acct_base.specs.declared.amount.Snapshot.{Snapshot}
use Rattle.acct_base.specs.declared.label.Label.{Label}
use Rattle.acct_base.specs.declared.charge.Charge.{Charge}
use Rattle.acct_base.specs.declared.sizes.Sizes.{Sizes}
use Rattle.acct_base.specs.Amounts.{label_cmp, same_label, IsValidLabel, IsAtMost, plus, zero_amount, amount_if}
use Rattle.acct_base.specs.Ordered.{ascending}
use Rattle.acct_base.specs.Receipts.{Call, charges, app_adds, iface_adds, charge_amount}
use Rattle.acct_base.specs.Sums.{added, folded, lands_at}
use Rattle.acct_base.proofs.SumLemmas.{zero_plus, total_by-append, folded-append}
use Rattle.desk_core.specs.declared.command.Command.{Command}
use Rattle.desk_core.specs.declared.command.Command.TheVariants as command
use Rattle.desk_core.specs.Commands.{reply, is_done, collects, after_command, writes}
use Rattle.shelf.specs.declared.shelf.Deletion.{Deletion}
use Rattle.shelf.specs.Phases.{deleted_app, IsShelved}
use Rattle.desk_core.specs.Ranges.{IsInRange}
use Rattle.captures.specs.Calls.{SectionCalls, IsSectionInRange}
use Rattle.acct_base.specs.Ranges.{IsCallInRange}
use Rattle.captures.specs.Runs.{Past, nothing_yet}
use Rattle.captures.proofs.Lists.{all_append, all_more, place_left, place_right}
use Rattle.acct_plain.specs.Serial.{serial_line, after_call, after_desk_line, live_snapshot, ended_phase, with_phase, rows_from, walk_lane, walk_lanes, walk_desk, walk_section}
use Rattle.acct_base.specs.Landings.{LandInTurn, AddInTurn}
use Rattle.acct_base.proofs.Keys.{plus_zero}
use Rattle.acct_plain.proofs.Turns.{in_phase}
use Rattle.acct_base.proofs.TurnLemmas.{land_append, add_append}
use Rattle.acct_plain.proofs.Lines.{charges_in_turn, apps_in_turn, ifaces_in_turn, charges_now}
use Rattle.acct_plain.proofs.Valid.{charges_valid, writes_sound}
use Rattle.acct_plain.proofs.Desk.{deleted_within}
use Rattle.acct_plain.specs.Sound.{DeletedWithin, IsSoundWrite}

-- the rows of a phase before they were divided
abbrev pub whole_phase : Past → ℕ → Snapshot
whole_phase past n = record { phase = n; rows = rows_from past.charges n }

pub record IsSound (sizes : Sizes) (past : Past) : Type 0 where
  pub writes : AllByRecursion IsSoundWrite past.journal
  pub valid : AllByRecursion (λ (c : Charge). IsValidLabel c.job.label) past.charges
  pub charges_turn : LandInTurn sizes.rows [] past.charges
  pub apps_turn : AddInTurn sizes.apps [] past.apps
  pub ifaces_turn : AddInTurn sizes.ifaces [] past.ifaces
  pub bounded : AllByRecursion (λ (c : Charge). c.phase ≤ length past.phases) past.charges
  pub shelved : (n : ℕ) (p : Snapshot × Option Deletion) → slice_get past.phases n ≡ Some p → IsShelved (whole_phase past n) p
  pub deleted : DeletedWithin past.phases past.apps

-- ---- later charges leave earlier phases alone

and_false : (a b : Bool) → b ≡ false → (a && b) ≡ false
and_false true b e = e
and_false false b e = refl

beyond : (n now m : ℕ) → n < now → m ≡ now → (m == n) ≡ false
beyond n now m lt e = grind (arith, lt, e)

no_landed : (n now : ℕ) (cs : List Charge) → n < now → AllByRecursion (λ (c : Charge). c.phase ≡ now) cs → filter (in_phase n) cs ≡ []
no_landed n now [] lt h = refl
no_landed n now (c ∷ cs) lt h =
    let test : in_phase n c ≡ false = and_false c.landed (c.phase == n) (beyond n now c.phase lt h.0) in
    ap (λ b. cond b (c ∷ filter (in_phase n) cs) (filter (in_phase n) cs)) test ∙ no_landed n now cs lt h.1

none_folded : (n now : ℕ) (l : Label) (cs : List Charge) → n < now → AllByRecursion (λ (c : Charge). c.phase ≡ now) cs → folded cs n l ≡ zero_amount
none_folded n now l [] lt h = refl
none_folded n now l (c ∷ cs) lt h =
    let test : in_phase n c ≡ false = and_false c.landed (c.phase == n) (beyond n now c.phase lt h.0) in
    let nowhere : lands_at n l c ≡ false = ap (λ b. b && same_label c.job.label l) test in
    ap (λ b. plus (amount_if b (charge_amount c)) (folded cs n l)) nowhere ∙ zero_plus (folded cs n l) ∙ none_folded n now l cs lt h.1

rows_kept : (cs later : List Charge) (n now : ℕ) → n < now → AllByRecursion (λ (c : Charge). c.phase ≡ now) later → rows_from (cs ++ later) n ≡ rows_from cs n
rows_kept cs later n now lt h =
    let kept : filter (in_phase n) (cs ++ later) ≡ filter (in_phase n) cs =
    filter-append (in_phase n) cs later ∙ ap (λ (xs : List Charge). filter (in_phase n) cs ++ xs) (no_landed n now later lt h) ∙ append-nil _ in
    let sums : (l : Label) → folded (cs ++ later) n l ≡ folded cs n l =
    λ l. folded-append cs later n l ∙ ap (plus (folded cs n l)) (none_folded n now l later lt h) ∙ plus_zero (folded cs n l) in
    λ i. map (λ (l : Label). record { label = l; amount = sums l i }) (ascending label_cmp (map (λ (c : Charge). c.job.label) (kept i)))

slice_within : {X : Type 0} (xs : List X) (n : ℕ) (x : X) → slice_get xs n ≡ Some x → n < length xs
slice_within [] n x e = absurd (cc)
slice_within (y ∷ ys) zero x e = omega arith
slice_within (y ∷ ys) (suc n) x e = let rest = slice_within ys n x e in omega (arith, rest)

more_at_most : (a b c : Amount) → IsAtMost a b → IsAtMost a (plus b c)
more_at_most a b c h = record {
  rx_packets = omega (arith, h.rx_packets);
  rx_bytes = omega (arith, h.rx_bytes);
  tx_packets = omega (arith, h.tx_packets);
  tx_bytes = omega (arith, h.tx_bytes);
}

-- ---- a call

pub call_sound : (sizes : Sizes) (past : Past) (call : Call) → IsCallInRange call → IsSound sizes past → IsSound sizes (after_call past call (serial_line sizes past call))
call_sound sizes past call range s =
    let r = serial_line sizes past call in
    let new = charges (call, r) in
    let now = charges_now sizes past call in record {
      writes = s.writes;
      valid = all_append (λ (c : Charge). IsValidLabel c.job.label) past.charges new s.valid (charges_valid sizes past call s.writes range);
      charges_turn = land_append sizes.rows [] past.charges new s.charges_turn (charges_in_turn sizes past call);
      apps_turn = add_append sizes.apps [] past.apps (app_adds (call, r)) s.apps_turn (apps_in_turn sizes past call);
      ifaces_turn = add_append sizes.ifaces [] past.ifaces (iface_adds (call, r)) s.ifaces_turn (ifaces_in_turn sizes past call);
      bounded = all_append (λ (c : Charge). c.phase ≤ length past.phases) past.charges new s.bounded
          (all_more (λ (c : Charge). c.phase ≡ length past.phases) (λ (c : Charge). c.phase ≤ length past.phases) (λ c e. omega (arith, e)) new now);
      shelved = λ n p e. subst (λ rows. IsShelved (record { phase = n; rows = rows }) p) (sym (rows_kept past.charges new n (length past.phases) (slice_within past.phases n p e) now)) (s.shelved n p e);
      deleted = λ uid. subst (λ (a : Amount). IsAtMost (deleted_app past.phases uid) a) (sym (total_by-append _ past.apps (app_adds (call, r))))
          (more_at_most (deleted_app past.phases uid) (added past.apps uid) (added (app_adds (call, r)) uid) (s.deleted uid));
    }

-- ---- a command

ended_shelved : (past : Past) (c : Command) → IsShelved (live_snapshot past) (ended_phase past c)
ended_shelved past (command.Delete caller uid tag) = record { phase = refl; left = refl; taken = refl }
ended_shelved past (command.Tag caller cookie uid tag) = refl
ended_shelved past (command.Untag cookie) = refl
ended_shelved past (command.Set caller uid set) = refl
ended_shelved past (command.Add uid b iface) = refl
ended_shelved past (command.Remove uid b) = refl
ended_shelved past (command.Toggle c on) = refl
ended_shelved past (command.Firewall c uid allowed) = refl
ended_shelved past (command.Replace c uids) = refl
ended_shelved past command.Collect = refl

only_item : {X : Type 0} (x y : X) (m : ℕ) → slice_get (x ∷ []) m ≡ Some y → (m ≡ 0) × (x ≡ y)
only_item x y zero e = (refl, cc)
only_item x y (suc m) e = absurd (cc)

one_more : (past : Past) (c : Command) → ((n : ℕ) (p : Snapshot × Option Deletion) → slice_get past.phases n ≡ Some p → IsShelved (whole_phase past n) p) →
    (n : ℕ) (p : Snapshot × Option Deletion) → slice_get (past.phases ++ ended_phase past c ∷ []) n ≡ Some p → IsShelved (whole_phase past n) p
one_more past c h n p e = elim (cases_lt n (length past.phases)) [
  | inl lt ↦ h n p (sym (place_left past.phases (ended_phase past c ∷ []) n lt) ∙ e)
  | inr ge ↦
      let m = n - length past.phases in
      let place : n ≡ length past.phases + m = omega (arith, ge) in
      let only = only_item (ended_phase past c) p m (sym (place_right past.phases (ended_phase past c ∷ []) m n place) ∙ e) in
      let at : length past.phases ≡ n = omega (arith, place, only.0) in
      subst (λ (x : ℕ × (Snapshot × Option Deletion)). IsShelved (whole_phase past x.0) x.1) (λ i. (at i, only.1 i)) (ended_shelved past c)
]

pub command_sound : (privileged : List ℕ) (sizes : Sizes) (past : Past) (c : Command) → IsInRange c → IsSound sizes past → IsSound sizes (after_desk_line privileged sizes past c)
command_sound privileged sizes past c range s =
    let written : Past = record past { journal = after_command privileged sizes.regs past.journal c } in
    let sound = all_append IsSoundWrite past.journal (writes past.journal privileged sizes.regs c) s.writes (writes_sound past.journal privileged sizes.regs c s.writes range) in
    elim (collects c && is_done (reply past.journal privileged sizes.regs c)) as (λ b. IsSound sizes (if b then with_phase written (ended_phase past c) else written)) [
      | false ↦ record {
        writes = sound;
        valid = s.valid;
        charges_turn = s.charges_turn;
        apps_turn = s.apps_turn;
        ifaces_turn = s.ifaces_turn;
        bounded = s.bounded;
        shelved = s.shelved;
        deleted = s.deleted;
      }
      | true ↦ record {
        writes = sound;
        valid = s.valid;
        charges_turn = s.charges_turn;
        apps_turn = s.apps_turn;
        ifaces_turn = s.ifaces_turn;
        bounded = all_more (λ (x : Charge). x.phase ≤ length past.phases) (λ (x : Charge). x.phase ≤ length (past.phases ++ ended_phase past c ∷ []))
            (λ x le. omega (arith, le, length-append past.phases (ended_phase past c ∷ []))) past.charges s.bounded;
        shelved = one_more past c s.shelved;
        deleted = deleted_within past c s.deleted;
      }
    ]

-- ---- lanes, a desk, a section

module _ (privileged : List ℕ) (sizes : Sizes) where
  lane_sound : (past : Past) (calls : List (ℕ × Call)) → AllByRecursion (λ (c : ℕ × Call). IsCallInRange c.1) calls → IsSound sizes past → IsSound sizes (walk_lane sizes past calls).0
  lane_sound past [] range s = s
  lane_sound past (c ∷ cs) range s = lane_sound (after_call past c.1 (serial_line sizes past c.1)) cs range.1 (call_sound sizes past c.1 range.0 s)

  pub lanes_sound : (past : Past) (lanes : List (List (ℕ × Call))) → AllByRecursion (AllByRecursion (λ (c : ℕ × Call). IsCallInRange c.1)) lanes → IsSound sizes past → IsSound sizes (walk_lanes sizes past lanes).0
  lanes_sound past [] range s = s
  lanes_sound past (l ∷ ls) range s = lanes_sound (walk_lane sizes past l).0 ls range.1 (lane_sound past l range.0 s)

  desk_sound : (past : Past) (desk : List (ℕ × Command)) → AllByRecursion (λ (c : ℕ × Command). IsInRange c.1) desk → IsSound sizes past → IsSound sizes (walk_desk privileged sizes past desk).0
  desk_sound past [] range s = s
  desk_sound past (c ∷ cs) range s = desk_sound (after_desk_line privileged sizes past c.1) cs range.1 (command_sound privileged sizes past c.1 range.0 s)

  pub section_sound : (past : Past) (calls : SectionCalls) → IsSectionInRange calls → IsSound sizes past → IsSound sizes (walk_section privileged sizes past calls).0
  section_sound past calls range s = desk_sound (walk_lanes sizes past calls.lanes).0 calls.desk range.desk (lanes_sound past calls.lanes range.lanes s)

pub none_sound : (sizes : Sizes) → IsSound sizes nothing_yet
none_sound sizes = record {
  writes = tt;
  valid = tt;
  charges_turn = tt;
  apps_turn = tt;
  ifaces_turn = tt;
  bounded = tt;
  shelved = λ n p e. absurd (cc);
  deleted = λ uid. record { rx_packets = omega arith; rx_bytes = omega arith; tx_packets = omega arith; tx_bytes = omega arith };
}
