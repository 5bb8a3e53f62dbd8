-- Each step is its event.
use Rattle.std.proofs.Common.{◌≡◌, ◌≢◌, ℕ, ◌+◌, ◌-◌, ◌*◌, ◌/◌, ◌%◌, ◌<◌, ◌≤◌, Bool, true, false, cond, eqb, ◌&&◌, List, [], ◌∷◌, ◌++◌, map, drop, get_or, set, length, sym, refl, ap, ◌∙◌, arith, get_or-set_other, get_or-set_same, eq-eqb, ne_eqb}
use Rattle.std.specs.Prelude.{slice_get, Some, option_and_then, nat_lt, nat_le, not}
use Rattle.std.proofs.lemmas.List.{drop-set-add, get_or-drop}
use mathlib.Core.Option.{some}
use mathlib.Core.Logic.{dite}
use native.Mathlib.Decide.{ℕ_discrete}
use mathlib.Core.List.{map-append}
use lib.ListN.{get_elem?}
use lib.Seq.{map-set}
use Rattle.atomic_table.proofs.Lists.{at_map, set_else}
use Rattle.acct_base.specs.declared.charge.Job.{Job}
use Rattle.acct_base.specs.declared.label.Label.{Label}
use Rattle.acct_base.specs.declared.amount.Row.{Row}
use Rattle.acct_base.specs.declared.amount.Snapshot.{Snapshot}
use Rattle.acct_base.specs.Amounts.{IsValidLabel, is_valid_label, same_label}
use Rattle.grace_core.specs.declared.event.Event.TheVariants as event
use Rattle.grace_core.specs.declared.state.CollectAt.{CollectAt}
use Rattle.grace_core.specs.declared.state.CollectAt.TheVariants.{Resting, Waiting, Draining}
use Rattle.grace_core.specs.declared.state.CollectView.{CollectView}
use Rattle.grace_core.specs.declared.state.State.{State}
use Rattle.grace_core.specs.declared.view.At.TheVariants.{Outside, Inside, First, Second, Adding}
use Rattle.grace_core.specs.declared.view.HookView.{HookView}
use Rattle.grace_core.specs.Machine as machine
use Rattle.grace_core.specs.Machine.{IsValidJob, is_valid_job, is_chargeable, same_job, direction, after, where_passes, claimed, moved, entered, first_found, second_found, split_left, split_right, joined, gone, one_more, no_more, exits_at, old_phase, with_word, collector_at, word_of, word_at, claim_first, claim_second, ascending_rows, rows_in, row_cmp, packets_column, bytes_column}
use Rattle.row_probe.specs.Keys.{pack1, pack2}
use Rattle.row_probe.specs.Places.{place_of}
use Rattle.acct_base.proofs.Keys.{label_self}
use Rattle.grace_core.proofs.Ascending.{sorted-moves}
use Rattle.grace_core.proofs.Weights.{on_both}
use Rattle.grace_rows.proofs.Bridge.{by_slice}
use Rattle.grace_rows.proofs.Collector.{lead_at, lead_set, hooks_stay, reopen_ascends, sorted_ascends}
use Rattle.grace_rows.proofs.UniqueRows.{ascending_is_one}
use Rattle.grace_rows.proofs.Shifts.{lead, lead_of, state, same_collector, collector_kept, plain_kept, drop_set_low, exits_word, exits_bump, exits_wipe, differ}
use Rattle.grace_rows.specs.declared.rule.Setup.{Setup}
use Rattle.grace_rows.specs.declared.rule.Sight.{Sight}
use Rattle.grace_rows.specs.declared.rule.Sight.TheVariants.{Hook, Collector}
use Rattle.grace_rows.specs.declared.rule.Trail.{Trail}
use Rattle.grace_rows.specs.Collecting.{IsTaken, flipped, polled, cleared, took, took_at, reopened}
use Rattle.grace_rows.specs.EventSteps.{IsSeat, IsEvent, entering, leaving, row_word, claiming_first, claiming_second, adding, cutting, opening, joining, flipping, polling, taking, freeing}
use Rattle.grace_rows.specs.Moments.{Moment}
use Rattle.grace_rows.specs.Shown.{Kept, shown, further, trail_after, merged, spent, opened_left, opened_right, hooked, cut_right}
use Rattle.grace_rows.specs.Sights.{hook_of, collect_of, is_hook}
use Rattle.grace_rows.specs.Trying.{at_turn, add_at, added}

-- ---- tests

passing : (b : Bool) (next : State) → b ≡ true → where_passes b next ≡ Some next
passing b next e = ap (λ (z : Bool). where_passes z next) e

lt_test : (a b : ℕ) → a < b → nat_lt a b ≡ true
lt_test a b h = grind (arith, h)

le_test : (a b : ℕ) → a ≤ b → nat_le a b ≡ true
le_test a b h = grind (arith, h)

label_test : (l : Label) → IsValidLabel l → is_valid_label l ≡ true
label_test l h = on_both (nat_lt l.uid 4294967295 && nat_lt l.tag 4294967296 && nat_le l.set 1 && nat_le 1 l.iface) (nat_le l.iface 16777215)
    (on_both (nat_lt l.uid 4294967295 && nat_lt l.tag 4294967296 && nat_le l.set 1) (nat_le 1 l.iface)
    (on_both (nat_lt l.uid 4294967295 && nat_lt l.tag 4294967296) (nat_le l.set 1)
    (on_both (nat_lt l.uid 4294967295) (nat_lt l.tag 4294967296) (lt_test l.uid 4294967295 h.uid) (lt_test l.tag 4294967296 h.tag))
    (le_test l.set 1 h.set)) (le_test 1 l.iface h.some_iface)) (le_test l.iface 16777215 h.iface)

job_test : (j : Job) → IsValidJob j → is_valid_job j ≡ true
job_test j h = on_both (is_valid_label j.label && is_chargeable j.packets) (is_chargeable j.bytes)
    (on_both (is_valid_label j.label) (is_chargeable j.packets) (label_test j.label h.label)
    (on_both (nat_le 1 j.packets) (nat_le j.packets 524287) (le_test 1 j.packets h.amount.some_packets) (le_test j.packets 524287 h.amount.few_packets)))
    (on_both (nat_le 1 j.bytes) (nat_le j.bytes 524287) (le_test 1 j.bytes h.amount.some_bytes) (le_test j.bytes 524287 h.amount.few_bytes))

own_job : (j : Job) → same_job j j ≡ true
own_job j = on_both (same_label j.label j.label && eqb (direction j.dir) (direction j.dir) && eqb j.packets j.packets) (eqb j.bytes j.bytes)
    (on_both (same_label j.label j.label && eqb (direction j.dir) (direction j.dir)) (eqb j.packets j.packets)
    (on_both (same_label j.label j.label) (eqb (direction j.dir) (direction j.dir)) (label_self j.label) (eq-eqb (direction j.dir) (direction j.dir) refl))
    (eq-eqb j.packets j.packets refl)) (eq-eqb j.bytes j.bytes refl)

-- ---- hooks

module _ (key : Setup) (s : Moment) (k : Kept key s) where
  abbrev now : State
  now = shown key s.words s.views

  abbrev hooks : List HookView
  hooks = map hook_of s.views

  abbrev choice : ℕ
  choice = get_or s.words 0 0

  abbrev even : ℕ
  even = get_or s.words 1 0

  abbrev odd : ℕ
  odd = get_or s.words 2 0

  wide : 3 ≤ length s.words
  wide = let w = k.wide in omega arith

  view_at : (id : ℕ) (x : Sight) → get_elem? s.views id ≡ some x → slice_get hooks id ≡ Some (hook_of x)
  view_at id x at = by_slice (map hook_of s.views) id (hook_of x) (at_map hook_of s.views id x at)

  module _ (id : ℕ) (c : Trail) (v : HookView) (at : get_elem? s.views id ≡ some (Hook v c)) where
    -- a step of the hook on the choice or on exits
    low : (i n : ℕ) (w : HookView) (d : Trail) (a e o : ℕ) → i < 3 → a ≡ get_or (set s.words i n) 0 0 → e ≡ get_or (set s.words i n) 1 0 → o ≡ get_or (set s.words i n) 2 0
        → state key.rows key.calls a e o (drop 3 s.words) (set hooks id w) (lead s.views) ≡ shown key (set s.words i n) (set s.views id (Hook w d))
    low i n w d a e o l p q r = λ j. state key.rows key.calls (p j) (q j) (r j) (sym (drop_set_low s.words i n l) j) (sym (map-set hook_of s.views id (Hook w d)) j) (sym (same_collector s.views id (Hook v c) (Hook w d) at refl k.led) j)

    -- a step on a row
    row : (i n : ℕ) (w : HookView) (d : Trail) → state key.rows key.calls choice even odd (set (drop 3 s.words) i n) (set hooks id w) (lead s.views) ≡ shown key (set s.words (3 + i) n) (set s.views id (Hook w d))
    row i n w d = λ j. state key.rows key.calls (sym (get_or-set_other s.words (3 + i) 0 n 0 (λ e. omega arith)) j) (sym (get_or-set_other s.words (3 + i) 1 n 0 (λ e. omega arith)) j) (sym (get_or-set_other s.words (3 + i) 2 n 0 (λ e. omega arith)) j)
        (sym (drop-set-add 3 s.words i n) j) (sym (map-set hook_of s.views id (Hook w d)) j) (sym (same_collector s.views id (Hook v c) (Hook w d) at refl k.led) j)

    enter_is : v.at ≡ Outside → 0 < v.left → IsEvent key (event.Enter id) s (entering s id (Hook v c))
    enter_is out can = let w : HookView = entered (choice / 4294967296) v in
        ap (option_and_then (λ (view : HookView). machine.enter now id view view.at)) (view_at id (Hook v c) at) ∙ (ap (machine.enter now id v) out
        ∙ (passing (nat_lt 0 v.left) (state key.rows key.calls (choice + 1) even odd (drop 3 s.words) (set hooks id w) (lead s.views)) (lt_test 0 v.left can)
        ∙ ap Some (low 0 (choice + 1) w c (choice + 1) even odd (omega arith) (sym (get_or-set_same s.words 0 (choice + 1) 0 (let g = wide in omega arith))) (sym (get_or-set_other s.words 0 1 (choice + 1) 0 (λ e. omega arith))) (sym (get_or-set_other s.words 0 2 (choice + 1) 0 (λ e. omega arith))))))

    exit_is : (p n : ℕ) → v.at ≡ Inside p n → IsEvent key (event.Exit id) s (leaving s p id (Hook v c))
    exit_is p n here = let i : ℕ = p % 2 + 1 in let w : HookView = moved v Outside in let both = exits_bump s.words p (get_or s.words i 0 + 1) wide refl in let x : ℕ × ℕ = one_more (even, odd) p in
        ap (option_and_then (λ (view : HookView). machine.exit now id view view.at)) (view_at id (Hook v c) at) ∙ (ap (machine.exit now id v) here
        ∙ ap Some (low i (get_or s.words i 0 + 1) w c choice x.0 x.1 (omega arith) (sym (get_or-set_other s.words i 0 (get_or s.words i 0 + 1) 0 (λ e. omega arith))) (ap (λ (y : ℕ × ℕ). y.0) both) (ap (λ (y : ℕ × ℕ). y.1) both)))

    module _ (p ch : ℕ) (j : Job) where
      first_claims : (t : ℕ) → v.at ≡ at_turn p ch j t → ch < 2 → IsValidJob j → after now (event.ClaimFirst id j) ≡ Some (claim_first now id v p ch j t)
      first_claims t here few job = ap (option_and_then (λ (view : HookView). machine.first_claim now id view j view.at)) (view_at id (Hook v c) at) ∙ dite (ℕ_discrete t 0)
          (λ e. ap (machine.first_claim now id v j) (here ∙ ap (λ (b : Bool). cond b (Inside p ch) (First p ch j t)) (eq-eqb t 0 e))
          ∙ (passing (nat_lt ch 2 && is_valid_job j) (claim_first now id v p ch j 0) (on_both (nat_lt ch 2) (is_valid_job j) (lt_test ch 2 few) (job_test j job)) ∙ ap (λ (z : ℕ). Some (claim_first now id v p ch j z)) (sym e)))
          (λ ne. ap (machine.first_claim now id v j) (here ∙ ap (λ (b : Bool). cond b (Inside p ch) (First p ch j t)) (ne_eqb t 0 ne)) ∙ passing (same_job j j) (claim_first now id v p ch j t) (own_job j))

      claim_first_is : (t : ℕ) → v.at ≡ at_turn p ch j t → ch < 2 → IsValidJob j → IsEvent key (event.ClaimFirst id j) s (claiming_first key s p ch j t id (Hook v c))
      claim_first_is t here few job = let i : ℕ = word_of key.rows p (place_of j.label t key.rows) 0 in let n : ℕ = get_or s.words (3 + i) 0 in
          first_claims t here few job ∙ (ap (λ (z : ℕ). Some (with_word now id (first_found key.rows v p ch j t z) i (claimed (pack1 j.label) z))) (get_or-drop 3 s.words i 0)
          ∙ ap Some (row i (claimed (pack1 j.label) n) (first_found key.rows v p ch j t n) (further c)))

      claim_second_is : (t : ℕ) → v.at ≡ Second p ch j t → IsEvent key (event.ClaimSecond id) s (claiming_second key s p ch j t id (Hook v c))
      claim_second_is t here = let i : ℕ = word_of key.rows p (place_of j.label t key.rows) 1 in let n : ℕ = get_or s.words (3 + i) 0 in
          ap (option_and_then (λ (view : HookView). machine.second_claim now id view view.at)) (view_at id (Hook v c) at) ∙ (ap (machine.second_claim now id v) here
          ∙ (ap (λ (z : ℕ). Some (with_word now id (second_found key.rows v p ch j t z) i (claimed (pack2 j.label) z))) (get_or-drop 3 s.words i 0)
          ∙ ap Some (row i (claimed (pack2 j.label) n) (second_found key.rows v p ch j t n) (further c))))

      packets_is : (r : ℕ) → v.at ≡ Adding p ch j r false → IsEvent key (event.Add id) s (adding s (row_word key p r (2 + 2 * direction j.dir)) j.packets id (Hook v c))
      packets_is r here = let i : ℕ = word_of key.rows p r (2 + 2 * direction j.dir) in
          ap (option_and_then (λ (view : HookView). machine.add now id view view.at)) (view_at id (Hook v c) at) ∙ (ap (machine.add now id v) here
          ∙ ((λ q. Some (with_word now id (sym (ap (add_at v) here) q) i (get_or-drop 3 s.words i 0 q + j.packets))) ∙ ap Some (row i (get_or s.words (3 + i) 0 + j.packets) (added v) (trail_after v.at c))))

      bytes_is : (r : ℕ) → v.at ≡ Adding p ch j r true → IsEvent key (event.Add id) s (adding s (row_word key p r (3 + 2 * direction j.dir)) j.bytes id (Hook v c))
      bytes_is r here = let i : ℕ = word_of key.rows p r (3 + 2 * direction j.dir) in
          ap (option_and_then (λ (view : HookView). machine.add now id view view.at)) (view_at id (Hook v c) at) ∙ (ap (machine.add now id v) here
          ∙ ((λ q. Some (with_word now id (sym (ap (add_at v) here) q) i (get_or-drop 3 s.words i 0 q + j.bytes))) ∙ ap Some (row i (get_or s.words (3 + i) 0 + j.bytes) (added v) (trail_after v.at c))))

  -- a seat is cut in two
  splits : (id n : ℕ) (x y z : Sight) → get_elem? s.views id ≡ some x → (hook_of x).at ≡ Outside → n ≤ (hook_of x).left → hook_of y ≡ split_left n (hook_of x) → hook_of z ≡ split_right n (hook_of x) → lead_of y ≡ lead_of x
      → IsEvent key (event.Split id n) s record { words = s.words; homes = s.homes; views = set s.views id y ++ z ∷ [] }
  splits id n x y z at out fits left right same = let v : HookView = hook_of x in
      ap (option_and_then (λ (view : HookView). machine.split now id n view view.at)) (view_at id x at) ∙ (ap (machine.split now id n v) out
      ∙ (passing (nat_le n v.left) (state key.rows key.calls choice even odd (drop 3 s.words) (set hooks id (split_left n v) ++ split_right n v ∷ []) (lead s.views)) (le_test n v.left fits)
      ∙ ap Some (λ i. state key.rows key.calls choice even odd (drop 3 s.words) (((λ q. set hooks id (sym left q) ++ sym right q ∷ []) ∙ ((λ q. sym (map-set hook_of s.views id y) q ++ hook_of z ∷ []) ∙ sym (map-append hook_of (set s.views id y) (z ∷ [])))) i) (sym (collector_kept s.views id x y (z ∷ []) at same) i))))

  -- two seats are one
  joins : (id other : ℕ) (x y w : Sight) → get_elem? s.views id ≡ some x → (hook_of x).at ≡ Outside → get_elem? s.views other ≡ some y → (hook_of y).at ≡ Outside → id ≢ other → hook_of w ≡ joined (hook_of x) (hook_of y) → lead_of w ≡ lead_of x → lead_of spent ≡ lead_of y
      → IsEvent key (event.Join id other) s record { words = s.words; homes = s.homes; views = set (set s.views id w) other spent }
  joins id other x y w at out at' out' ne both same gone_too = let v : HookView = hook_of x in let u : HookView = hook_of y in let still : get_elem? (set s.views id w) other ≡ some y = set_else s.views id other w (λ e. ne (sym e)) ∙ at' in
      ap (option_and_then (λ (view : HookView). machine.at_hook now other (λ (second : HookView). machine.join now id other view second view.at second.at))) (view_at id x at)
      ∙ (ap (option_and_then (λ (second : HookView). machine.join now id other v second v.at second.at)) (view_at other y at')
      ∙ ((λ i. machine.join now id other v u (out i) (out' i))
      ∙ (passing (not (eqb id other)) (state key.rows key.calls choice even odd (drop 3 s.words) (set (set hooks id (joined v u)) other gone) (lead s.views)) (ap not (ne_eqb id other ne))
      ∙ ap Some (λ i. state key.rows key.calls choice even odd (drop 3 s.words) (((λ q. set (set hooks id (sym both q)) other gone) ∙ ((λ q. set (sym (map-set hook_of s.views id w) q) other (hook_of spent)) ∙ sym (map-set hook_of (set s.views id w) other spent))) i)
      (sym (plain_kept (set s.views id w) other y spent still gone_too ∙ plain_kept s.views id x w at same) i)))))

  join_is : (id other : ℕ) (x y : Sight) → get_elem? s.views id ≡ some x → (hook_of x).at ≡ Outside → get_elem? s.views other ≡ some y → is_hook y ≡ true → (hook_of y).at ≡ Outside → id ≢ other → IsEvent key (event.Join id other) s (joining s id x other y)
  join_is id other (Hook v c) (Hook u d) at out at' h out' ne = joins id other (Hook v c) (Hook u d) (merged (Hook v c) (Hook u d)) at out at' out' ne refl refl refl
  join_is id other (Collector v own ss lo ex) (Hook u d) at out at' h out' ne = joins id other (Collector v own ss lo ex) (Hook u d) (merged (Collector v own ss lo ex) (Hook u d)) at out at' out' ne refl refl refl
  join_is id other x (Collector v own ss lo ex) at out at' h out' ne = absurd (differ h)

  -- ---- the collector

  module _ (c : CollectView) (v : HookView) (ss : List Snapshot) (lo ex : ℕ) (at : get_elem? s.views 0 ≡ some (Collector c v ss lo ex)) where
    abbrev x : Sight
    x = Collector c v ss lo ex

    abbrev mine : State
    mine = state key.rows key.calls choice even odd (drop 3 s.words) hooks (c, ss)

    shown_is : now ≡ mine
    shown_is = λ i. state key.rows key.calls choice even odd (drop 3 s.words) hooks (lead_at s.views x at i)

    -- a step of the collector
    shows : (i n : ℕ) (y : Sight) (a e o : ℕ) (ws : List ℕ) → hook_of y ≡ v → a ≡ get_or (set s.words i n) 0 0 → e ≡ get_or (set s.words i n) 1 0 → o ≡ get_or (set s.words i n) 2 0 → ws ≡ drop 3 (set s.words i n)
        → state key.rows key.calls a e o ws hooks (lead_of y) ≡ shown key (set s.words i n) (set s.views 0 y)
    shows i n y a e o ws own p q r t = λ j. state key.rows key.calls (p j) (q j) (r j) (t j) (hooks_stay key s k c v ss lo ex at y own j) (sym (lead_set s.views x y at) j)

    flip_is : c.at ≡ Resting → c.phase < 1024 → IsEvent key event.Flip s (flipping s x)
    flip_is rests lt = let new : ℕ = (c.phase + 1) * 4294967296 in let y : Sight = flipped choice x in
        ap (λ (z : State). after z event.Flip) shown_is ∙ (ap (machine.flip mine) rests
        ∙ (passing (nat_lt c.phase 1024) (state key.rows key.calls new even odd (drop 3 s.words) hooks (lead_of y)) (lt_test c.phase 1024 lt)
        ∙ ap Some (shows 0 new y new even odd (drop 3 s.words) refl (sym (get_or-set_same s.words 0 new 0 (let g = wide in omega arith))) (sym (get_or-set_other s.words 0 1 new 0 (λ e. omega arith))) (sym (get_or-set_other s.words 0 2 new 0 (λ e. omega arith))) (sym (drop_set_low s.words 0 new (omega arith))))))

    module _ (old : ℕ) (ph : c.phase ≡ old + 1) where
      back : c.phase - 1 ≡ old
      back = omega arith

      either : (b : Bool) (entered : ℕ) → c.at ≡ Waiting entered → cond b (collector_at mine (Draining 0 [])) mine ≡ state key.rows key.calls choice even odd (drop 3 s.words) hooks (record { phase = c.phase; at = cond b (Draining 0 []) (Waiting entered) }, ss)
      either true entered waits = refl
      either false entered waits = λ i. state key.rows key.calls choice even odd (drop 3 s.words) hooks (record { phase = c.phase; at = waits i }, ss)

      same_word : (i : ℕ) → s.words ≡ set s.words i (get_or s.words i 0)
      same_word i = sym (lib.Seq.set-get_or s.words i 0)

      poll_is : (entered : ℕ) → c.at ≡ Waiting entered → IsEvent key event.LoadExits s (polling s old x)
      poll_is entered waits = let i : ℕ = old % 2 + 1 in let found : ℕ = get_or s.words i 0 in let y : Sight = polled found x in
          ap (λ (z : State). after z event.LoadExits) shown_is ∙ (ap (machine.load_exits mine) waits
          ∙ (ap (λ (z : ℕ). Some (cond (eqb z entered) (collector_at mine (Draining 0 [])) mine)) (ap (exits_at (even, odd)) back ∙ exits_word s.words old)
          ∙ (ap Some (either (eqb found entered) entered waits)
          ∙ (ap (λ (z : CollectAt). Some (state key.rows key.calls choice even odd (drop 3 s.words) hooks (record { phase = c.phase; at = z }, ss))) (sym (ap (cleared found) waits))
          ∙ ap Some (shows i found y choice even odd (drop 3 s.words) refl (ap (λ (z : List ℕ). get_or z 0 0) (same_word i)) (ap (λ (z : List ℕ). get_or z 1 0) (same_word i)) (ap (λ (z : List ℕ). get_or z 2 0) (same_word i)) (ap (drop 3) (same_word i)))))))

      take_is : (next : ℕ) (taken : List ℕ) → c.at ≡ Draining next taken → next < 6 * key.rows → IsEvent key event.TakeWord s (taking key s old next x)
      take_is next taken drains lt = let i : ℕ = word_at key.rows old next in let found : ℕ = get_or s.words (3 + i) 0 in let y : Sight = took found x in
          ap (λ (z : State). after z event.TakeWord) shown_is ∙ (ap (machine.take_word mine) drains
          ∙ (ap (λ (z : ℕ). where_passes (nat_lt next (6 * key.rows)) (state key.rows key.calls choice even odd (set (drop 3 s.words) (word_at key.rows z next) 0) hooks (record { phase = c.phase; at = Draining (next + 1) (taken ++ get_or (drop 3 s.words) (word_at key.rows z next) 0 ∷ []) }, ss))) back
          ∙ (passing (nat_lt next (6 * key.rows)) (state key.rows key.calls choice even odd (set (drop 3 s.words) i 0) hooks (record { phase = c.phase; at = Draining (next + 1) (taken ++ get_or (drop 3 s.words) i 0 ∷ []) }, ss)) (lt_test next (6 * key.rows) lt)
          ∙ ((λ q. Some (state key.rows key.calls choice even odd (set (drop 3 s.words) i 0) hooks (record { phase = c.phase; at = ((λ r. Draining (next + 1) (taken ++ get_or-drop 3 s.words i 0 r ∷ [])) ∙ sym (ap (took_at found) drains)) q }, ss)))
          ∙ ap Some (shows (3 + i) 0 y choice even odd (set (drop 3 s.words) i 0) refl (sym (get_or-set_other s.words (3 + i) 0 0 0 (λ e. omega arith))) (sym (get_or-set_other s.words (3 + i) 1 0 0 (λ e. omega arith))) (sym (get_or-set_other s.words (3 + i) 2 0 0 (λ e. omega arith))) (sym (drop-set-add 3 s.words i 0)))))))

      free_is : (taken : List ℕ) (rows : List Row) → c.at ≡ Draining (6 * key.rows) taken → rows ≡ ascending_rows key.rows taken → IsEvent key event.Reopen s (freeing s old rows x)
      free_is taken rows drains same = let i : ℕ = old % 2 + 1 in let y : Sight = reopened rows x in let e : ℕ × ℕ = no_more (even, odd) old in let both = exits_wipe s.words old wide in
          ap (λ (z : State). after z event.Reopen) shown_is ∙ (ap (machine.reopen mine) drains
          ∙ (passing (eqb (6 * key.rows) (6 * key.rows)) (machine.reopened mine (ascending_rows key.rows taken)) (eq-eqb (6 * key.rows) (6 * key.rows) refl)
          ∙ (ap (λ (z : List Row). Some (machine.reopened mine z)) (sym same)
          ∙ (ap (λ (z : ℕ). Some (record (machine.reopened mine rows) { exits = no_more (even, odd) z })) back
          ∙ ap Some (shows i 0 y choice e.0 e.1 (drop 3 s.words) refl (sym (get_or-set_other s.words i 0 0 0 (λ e. omega arith))) (ap (λ (z : ℕ × ℕ). z.0) both) (ap (λ (z : ℕ × ℕ). z.1) both) (sym (drop_set_low s.words i 0 (omega arith))))))))

-- ---- in terms of seats

module _ (key : Setup) (s : Moment) (id : ℕ) where
  pub enters_by_event : (x : Sight) → IsSeat key s id x → is_hook x ≡ true → (hook_of x).at ≡ Outside → 0 < (hook_of x).left → IsEvent key (event.Enter id) s (entering s id x)
  enters_by_event (Hook v c) i h out can = enter_is key s i.kept id c v i.view out can
  enters_by_event (Collector v own ss lo ex) i h out can = absurd (differ h)

  pub claims_first_by_event : (phase charges turn : ℕ) (job : Job) (x : Sight) → IsSeat key s id x → is_hook x ≡ true → (hook_of x).at ≡ at_turn phase charges job turn → charges < 2 → IsValidJob job → IsEvent key (event.ClaimFirst id job) s (claiming_first key s phase charges job turn id x)
  claims_first_by_event phase charges turn job (Hook v c) i h here few valid = claim_first_is key s i.kept id c v i.view phase charges job turn here few valid
  claims_first_by_event phase charges turn job (Collector v own ss lo ex) i h here few valid = absurd (differ h)

  pub claims_second_by_event : (phase charges turn : ℕ) (job : Job) (x : Sight) → IsSeat key s id x → is_hook x ≡ true → (hook_of x).at ≡ Second phase charges job turn → IsEvent key (event.ClaimSecond id) s (claiming_second key s phase charges job turn id x)
  claims_second_by_event phase charges turn job (Hook v c) i h here = claim_second_is key s i.kept id c v i.view phase charges job turn here
  claims_second_by_event phase charges turn job (Collector v own ss lo ex) i h here = absurd (differ h)

  pub adds_packets_by_event : (phase charges r : ℕ) (job : Job) (x : Sight) → IsSeat key s id x → is_hook x ≡ true → (hook_of x).at ≡ Adding phase charges job r false → IsEvent key (event.Add id) s (adding s (row_word key phase r (packets_column job.dir)) job.packets id x)
  adds_packets_by_event phase charges r job (Hook v c) i h here = packets_is key s i.kept id c v i.view phase charges job r here
  adds_packets_by_event phase charges r job (Collector v own ss lo ex) i h here = absurd (differ h)

  pub adds_bytes_by_event : (phase charges r : ℕ) (job : Job) (x : Sight) → IsSeat key s id x → is_hook x ≡ true → (hook_of x).at ≡ Adding phase charges job r true → IsEvent key (event.Add id) s (adding s (row_word key phase r (bytes_column job.dir)) job.bytes id x)
  adds_bytes_by_event phase charges r job (Hook v c) i h here = bytes_is key s i.kept id c v i.view phase charges job r here
  adds_bytes_by_event phase charges r job (Collector v own ss lo ex) i h here = absurd (differ h)

  pub exits_by_event : (phase charges : ℕ) (x : Sight) → IsSeat key s id x → is_hook x ≡ true → (hook_of x).at ≡ Inside phase charges → IsEvent key (event.Exit id) s (leaving s phase id x)
  exits_by_event phase charges (Hook v c) i h here = exit_is key s i.kept id c v i.view phase charges here
  exits_by_event phase charges (Collector v own ss lo ex) i h here = absurd (differ h)

  pub splits_by_event : (n : ℕ) (x : Sight) → IsSeat key s id x → is_hook x ≡ true → (hook_of x).at ≡ Outside → n ≤ (hook_of x).left → IsEvent key (event.Split id n) s (cutting s n id x)
  splits_by_event n (Hook v c) i h out fits = splits key s i.kept id n (Hook v c) (hooked (split_left n) (Hook v c)) (cut_right n (Hook v c)) i.view out fits refl refl refl
  splits_by_event n (Collector v own ss lo ex) i h out fits = absurd (differ h)

  pub opens_by_event : (x : Sight) → IsSeat key s id x → is_hook x ≡ false → (hook_of x).at ≡ Outside → IsEvent key (event.Split id (hook_of x).left) s (opening s id x)
  opens_by_event (Collector v own ss lo ex) i h out = splits key s i.kept id own.left (Collector v own ss lo ex) (opened_left (Collector v own ss lo ex)) (opened_right (Collector v own ss lo ex)) i.view out (omega arith) refl refl refl
  opens_by_event (Hook v c) i h out = absurd (differ (sym h))

pub joins_by_event : (key : Setup) (s : Moment) (id other : ℕ) (x y : Sight) → IsSeat key s id x → (hook_of x).at ≡ Outside → IsSeat key s other y → is_hook y ≡ true → (hook_of y).at ≡ Outside → id ≢ other → IsEvent key (event.Join id other) s (joining s id x other y)
joins_by_event key s id other x y i out i' h out' ne = join_is key s i.kept id other x y i.view out i'.view h out' ne

module _ (key : Setup) (s : Moment) where
  pub flips_by_event : (x : Sight) → IsSeat key s 0 x → is_hook x ≡ false → (collect_of x).at ≡ Resting → (collect_of x).phase < 1024 → IsEvent key event.Flip s (flipping s x)
  flips_by_event (Collector c v ss lo ex) i h rests lt = flip_is key s i.kept c v ss lo ex i.view rests lt
  flips_by_event (Hook v c) i h rests lt = absurd (differ (sym h))

  pub polls_by_event : (old entered : ℕ) (x : Sight) → IsSeat key s 0 x → is_hook x ≡ false → (collect_of x).at ≡ Waiting entered → (collect_of x).phase ≡ old + 1 → IsEvent key event.LoadExits s (polling s old x)
  polls_by_event old entered (Collector c v ss lo ex) i h waits ph = poll_is key s i.kept c v ss lo ex i.view old ph entered waits
  polls_by_event old entered (Hook v c) i h waits ph = absurd (differ (sym h))

  pub takes_by_event : (old next : ℕ) (taken : List ℕ) (x : Sight) → IsSeat key s 0 x → is_hook x ≡ false → (collect_of x).at ≡ Draining next taken → (collect_of x).phase ≡ old + 1 → next < 6 * key.rows → IsEvent key event.TakeWord s (taking key s old next x)
  takes_by_event old next taken (Collector c v ss lo ex) i h drains ph lt = take_is key s i.kept c v ss lo ex i.view old ph next taken drains lt
  takes_by_event old next taken (Hook v c) i h drains ph lt = absurd (differ (sym h))

  pub frees_by_event : (old : ℕ) (taken : List ℕ) (rows : List Row) (x : Sight) → IsSeat key s 0 x → is_hook x ≡ false → (collect_of x).at ≡ Draining (6 * key.rows) taken → (collect_of x).phase ≡ old + 1 → IsTaken key.rows taken rows → IsEvent key event.Reopen s (freeing s old rows x)
  frees_by_event old taken rows (Collector c v ss lo ex) i h drains ph t = free_is key s i.kept c v ss lo ex i.view old ph taken rows drains
      (ascending_is_one (rows_in key.rows taken) rows (ascending_rows key.rows taken) t.same (sorted-moves row_cmp (rows_in key.rows taken)) (reopen_ascends key s i.kept c v ss lo ex i.view old taken rows drains ph t) (sorted_ascends key s i.kept c v ss lo ex i.view old taken drains ph))
  frees_by_event old taken rows (Hook v c) i h drains ph t = absurd (differ (sym h))
