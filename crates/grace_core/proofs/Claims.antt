-- The events on the rows: each is a change of one view, and of one word at most.
use Rattle.std.proofs.Common.{◌≡◌, ◌≢◌, ℕ, ◌+◌, ◌*◌, ◌<◌, ◌≤◌, Bool, true, false, cond, List, [], ◌∷◌, ◌++◌, length, set, sym, refl, ap, ◌∙◌, subst, inl, inr, arith, length-set, length-append, eq-eqb, ne_eqb}
use mathlib.Core.Logic.{dite}
use native.Mathlib.Decide.{ℕ_discrete}
use Rattle.std.specs.Prelude.{Some, slice_get, sum_by}
use Rattle.std.proofs.lemmas.List.Sums.{sum_by_push}
use Rattle.acct_base.specs.declared.charge.Job.{Job}
use Rattle.acct_base.specs.declared.charge.Charge.{Charge}
use Rattle.acct_base.specs.declared.packet.Dir.{Dir}
use Rattle.acct_base.specs.declared.packet.Dir.TheVariants.{Ingress, Egress}
use Rattle.grace_core.specs.declared.view.HookView.{HookView}
use Rattle.grace_core.specs.declared.state.State.{State}
use Rattle.grace_core.specs.declared.view.At.{At}
use Rattle.grace_core.specs.declared.view.At.TheVariants.{First, Second, Adding}
use Rattle.row_probe.specs.Keys.{pack1, pack2}
use Rattle.grace_core.specs.Machine.{IsValidJob, direction, moved, charge, recorded, next_turn, word_of}
use Rattle.row_probe.specs.Places.{place_of}
use Rattle.grace_core.specs.Sums.{Probe, second_at, adding_at, pending_at, Measure, landed, missed, packets, bytes, weight, measure, stand, tally}
use Rattle.grace_core.specs.Rows.{cell, Has, Decided, Tried, RowsAreGood}
use Rattle.grace_core.specs.Good.{side, Standing, ViewIsGood, IsGood}
use Rattle.grace_core.proofs.Items.{sum_at, sum_none, each_snoc}
use Rattle.row_probe.proofs.Packing.{pack1-ne-zero, pack2-ne-zero}
use Rattle.row_probe.proofs.Turns.{place-lt}
use Rattle.grace_core.proofs.RowSteps.{put, cell_here, Grows, grows_same, grows_key, grows_number, tried_grows, first_set, second_set, stands_change, packets_added, charge_missed, bytes_added}
use Rattle.grace_core.proofs.Sides.{side_set, side_else}
use Rattle.grace_core.proofs.Within.{In, called_in, within_in}
use Rattle.grace_core.proofs.Changes.{after_change, keeps_change, in_use, rows_of}
use Rattle.grace_core.proofs.Weights.{second_self, second_off, adding_self, adding_off, pending_before, pending_self, pending_off, pending_none, law, measure_else, missed_off, landed_on, landed_off, packets_on, packets_off, bytes_on, bytes_off}

pub egress_low : (d : Dir) → direction d < 2
egress_low Ingress = omega arith
egress_low Egress = omega arith

-- it is to try the place of the turn t
pub record Ready (rows : ℕ) (ws : List ℕ) (v : HookView) (p c : ℕ) (j : Job) (t : ℕ) : Type 0 where
  pub phase : p ≡ v.phase
  pub few : c < 2
  pub room : length v.list + 2 ≤ 2 * v.made + c
  pub job : IsValidJob j
  pub turn : t < rows
  pub tried : Tried rows ws j.label t

module _ (s : State) (g : IsGood s) (id : ℕ) (v : HookView) (at : slice_get s.hooks id ≡ Some v) (p : ℕ) (was : In p v.at) where
  abbrev N : ℕ
  N = s.collector.phase

  abbrev ws : List ℕ
  ws = side s.rows s.words p

  abbrev own : RowsAreGood s.rows (side s.rows s.words p) (stand s.rows p s.hooks) (tally p s.hooks)
  own = rows_of s g p s.collector.at g.stage (in_use s g id p v at was s.collector.at g.stage)

  sums : (w : HookView) (q : Probe) → stand s.rows p (set s.hooks id w) q + weight s.rows p v.at q ≡ stand s.rows p s.hooks q + weight s.rows p w.at q
  sums w q = sum_at (λ (x : HookView). weight s.rows p x.at q) s.hooks id v w at

  lists : (w : HookView) (m : Measure) → tally p (set s.hooks id w) m + sum_by (measure p m) v.list ≡ tally p s.hooks m + sum_by (measure p m) w.list
  lists w m = sum_at (λ (x : HookView). sum_by (measure p m) x.list) s.hooks id v w at

  -- a change of the view's place alone, beside one word of the side
  module _ (i c x : ℕ) (li : i < s.rows) (lc : c < 6) where
    abbrev us : List ℕ
    us = set s.words (word_of s.rows p i c) x

    written : (a : At) → In p a → Grows ws (put ws i c x) → (Standing s.rows (side s.rows us) v.phase v.made (length v.list) a)
        → RowsAreGood s.rows (put ws i c x) (stand s.rows p (set s.hooks id (moved v a))) (tally p (set s.hooks id (moved v a))) → IsGood (after_change s id (moved v a) us)
    written a now grows standing rows = let e = side_set s.rows s.words p i c x li lc in let ok = g.each_view id v at in keeps_change s g id p v (moved v a) us at record {
      was = was;
      now = now;
      left = refl;
      made = refl;
      phase = refl;
      list = λ q m ne. refl;
      wide = length-set s.words (word_of s.rows p i c) x;
      other_side = λ q ne. side_else s.rows s.words p q i c x ne li lc;
      grows = subst (Grows ws) (sym e) grows;
      view = record { phase = ok.phase; standing = standing; called = within_in (λ _. 1 ≤ v.made) p a now (called_in v.made p v.at was ok.called); jobs = ok.jobs };
      rows = subst (λ (y : List ℕ). RowsAreGood s.rows y (stand s.rows p (set s.hooks id (moved v a))) (tally p (set s.hooks id (moved v a)))) (sym e) rows;
    }

  -- the same with no word
  stays : (w : HookView) → In p w.at → w.left ≡ v.left → w.made ≡ v.made → w.phase ≡ v.phase → ((q : ℕ) (m : Measure) → p ≢ q → sum_by (measure q m) w.list ≡ sum_by (measure q m) v.list)
      → ViewIsGood s.rows N (side s.rows s.words) w → RowsAreGood s.rows ws (stand s.rows p (set s.hooks id w)) (tally p (set s.hooks id w)) → IsGood (after_change s id w s.words)
  stays w now l m ph list view rows = keeps_change s g id p v w s.words at record {
    was = was;
    now = now;
    left = l;
    made = m;
    phase = ph;
    list = list;
    wide = refl;
    other_side = λ q ne. refl;
    grows = grows_same ws ws refl;
    view = view;
    rows = rows;
  }

  tally_moved : (a : At) → tally p (set s.hooks id (moved v a)) ≡ tally p s.hooks
  tally_moved a = λ i m. (let e = lists (moved v a) m in let f : tally p (set s.hooks id (moved v a)) m ≡ tally p s.hooks m = omega arith in f) i

  under : (a : At) (xs : List ℕ) → RowsAreGood s.rows xs (stand s.rows p (set s.hooks id (moved v a))) (tally p s.hooks) → RowsAreGood s.rows xs (stand s.rows p (set s.hooks id (moved v a))) (tally p (set s.hooks id (moved v a)))
  under a xs k = subst (RowsAreGood s.rows xs (stand s.rows p (set s.hooks id (moved v a)))) (sym (tally_moved a)) k

  module _ (c t : ℕ) (j : Job) (r : Ready s.rows (side s.rows s.words p) v p c j t) where
    abbrev i : ℕ
    i = place_of j.label t s.rows

    abbrev a2 : At
    a2 = Second p c j t

    li : i < s.rows
    li = place-lt (pack1 j.label) (pack2 j.label) t s.rows r.turn

    module _ (idle : (q : Probe) → weight s.rows p v.at q ≡ 0) where
      -- the place had no first key
      pub first_took : cell (side s.rows s.words p) (place_of j.label t s.rows) 0 ≡ 0 → IsGood (after_change s id (moved v (Second p c j t)) (set s.words (word_of s.rows p (place_of j.label t s.rows) 0) (pack1 j.label)))
      first_took free = let e = side_set s.rows s.words p i 0 (pack1 j.label) li (omega arith) in let grows = grows_key ws i 0 (pack1 j.label) (omega arith) free in
          written i 0 (pack1 j.label) li (omega arith) a2 refl grows (
            r.phase,
            r.few,
            r.room,
            r.job,
            r.turn,
            subst (λ (y : List ℕ). Tried s.rows y j.label t) (sym e) (tried_grows s.rows ws (put ws i 0 (pack1 j.label)) grows j.label t r.tried),
            ap (λ (y : List ℕ). cell y i 0) e ∙ cell_here s.rows ws i 0 (pack1 j.label) own.wide li (omega arith),
          )
          (under a2 (put ws i 0 (pack1 j.label)) (first_set s.rows ws (stand s.rows p s.hooks) (stand s.rows p (set s.hooks id (moved v a2))) (tally p s.hooks) own i (pack1 j.label) li free (pack1-ne-zero j.label)
          (λ k h. let m = sums (moved v a2) (second_at k h) in let z = idle (second_at k h) in omega arith)
          (let m = sums (moved v a2) (second_at i (pack1 j.label)) in let z = idle (second_at i (pack1 j.label)) in let o = second_self s.rows p c j t in omega arith)
          (λ k. let m = sums (moved v a2) (adding_at k) in let z = idle (adding_at k) in omega arith)
          (λ k e. let m = sums (moved v a2) (pending_at k e) in let z = idle (pending_at k e) in omega arith)))

      -- the place has the label's first key
      pub first_mine : cell (side s.rows s.words p) (place_of j.label t s.rows) 0 ≡ pack1 j.label → IsGood (after_change s id (moved v (Second p c j t)) s.words)
      first_mine mine = let ok = g.each_view id v at in stays (moved v a2) refl refl refl refl (λ q m ne. refl) record { phase = ok.phase; standing = (r.phase, r.few, r.room, r.job, r.turn, r.tried, mine); called = called_in v.made p v.at was ok.called; jobs = ok.jobs }
          (under a2 ws (stands_change s.rows ws (stand s.rows p s.hooks) (stand s.rows p (set s.hooks id (moved v a2))) (tally p s.hooks) own
          (λ k h _. let m = sums (moved v a2) (second_at k h) in let z = idle (second_at k h) in omega arith)
          (λ k. let m = sums (moved v a2) (adding_at k) in let z = idle (adding_at k) in omega arith)
          (λ k e. let m = sums (moved v a2) (pending_at k e) in let z = idle (pending_at k e) in omega arith)))

    -- the place is decided against the label
    module _ (no : Decided (side s.rows s.words p) j.label (place_of j.label t s.rows))
        (second : (k h : ℕ) → cell (side s.rows s.words p) k 1 ≡ 0 → weight s.rows p v.at (second_at k h) ≡ 0) (adding : (k : ℕ) → weight s.rows p v.at (adding_at k) ≡ 0) (pending : (k e : ℕ) → weight s.rows p v.at (pending_at k e) ≡ 0) where
      tried_more : Tried s.rows ws j.label (t + 1)
      tried_more u lu = dite (ℕ_discrete u t) (λ e. subst (λ (z : ℕ). Decided ws j.label (place_of j.label z s.rows)) (sym e) no) (λ ne. r.tried u (omega arith))

      at_rest : (w : HookView) → ((q : Probe) → weight s.rows p w.at q ≡ 0) → RowsAreGood s.rows ws (stand s.rows p (set s.hooks id w)) (tally p s.hooks)
      at_rest w idle = stands_change s.rows ws (stand s.rows p s.hooks) (stand s.rows p (set s.hooks id w)) (tally p s.hooks) own
          (λ k h z. let m = sums w (second_at k h) in let o = second k h z in omega arith) (λ k. let m = sums w (adding_at k) in let o = adding k in omega arith)
          (λ k e. let m = sums w (pending_at k e) in let o = pending k e in let y = idle (pending_at k e) in omega arith)

      turn_next : t + 1 ≢ s.rows → IsGood (after_change s id (moved v (First p c j (t + 1))) s.words)
      turn_next ne = let ok = g.each_view id v at in let a : At = First p c j (t + 1) in let lt = r.turn in
          stays (moved v a) refl refl refl refl (λ q m ne. refl) record { phase = ok.phase; standing = (r.phase, r.few, r.room, r.job, omega arith, tried_more); called = called_in v.made p v.at was ok.called; jobs = ok.jobs } (under a ws (at_rest (moved v a) (λ q. refl)))

      abbrev w3 : HookView
      w3 = recorded v p c j false

      listed : (q : ℕ) (m : Measure) → sum_by (measure q m) (v.list ++ charge p j false ∷ []) ≡ sum_by (measure q m) v.list + measure q m (charge p j false)
      listed q m = sum_by_push (measure q m) v.list (charge p j false)

      turns_done : t + 1 ≡ s.rows → IsGood (after_change s id (recorded v p c j false) s.words)
      turns_done last = let ok = g.each_view id v at in let few = r.few in let room = r.room in let long = length-append v.list (charge p j false ∷ []) in
          let still : (m : Measure) → measure p m (charge p j false) ≡ 0 → tally p (set s.hooks id w3) m ≡ tally p s.hooks m = λ m z. let e = lists w3 m in let f = listed p m in omega arith in
          stays w3 refl refl refl refl (λ q m ne. let e = listed q m in let z = measure_else q p m j false ne in omega arith)
          record {
            phase = ok.phase;
            standing = (r.phase, omega arith, omega arith);
            called = called_in v.made p v.at was ok.called;
            jobs = each_snoc (λ (y : Charge). IsValidJob y.job × (y.phase ≤ N)) (λ (y : Charge). IsValidJob y.job × (y.phase ≤ N)) v.list (charge p j false) ok.jobs
                (r.job, subst (λ (z : ℕ). z ≤ N) (sym r.phase) ok.phase) (λ y z. z);
          }
          (charge_missed s.rows ws (stand s.rows p (set s.hooks id w3)) (stand s.rows p (set s.hooks id w3)) (tally p s.hooks) (at_rest w3 (λ q. refl)) (tally p (set s.hooks id w3)) j.label
          (subst (Tried s.rows ws j.label) last tried_more) (λ l. still (landed l) refl) (λ l e. (still (packets l e) refl, still (bytes l e) refl)) (λ l e. still (missed l) (missed_off p j l e)))

      pub passed : IsGood (after_change s id (next_turn s.rows v p c j t) s.words)
      passed = dite (ℕ_discrete (t + 1) s.rows) (λ e. subst (λ (b : Bool). IsGood (after_change s id (cond b (recorded v p c j false) (moved v (First p c j (t + 1)))) s.words)) (sym (eq-eqb (t + 1) s.rows e)) (turns_done e))
          (λ ne. subst (λ (b : Bool). IsGood (after_change s id (cond b (recorded v p c j false) (moved v (First p c j (t + 1)))) s.words)) (sym (ne_eqb (t + 1) s.rows ne)) (turn_next ne))

    module _ (second : v.at ≡ Second p c j t) (key : cell (side s.rows s.words p) (place_of j.label t s.rows) 0 ≡ pack1 j.label) where
      abbrev a4 : At
      a4 = Adding p c j i false

      weighs : (q : Probe) → weight s.rows p v.at q ≡ weight s.rows p (Second p c j t) q
      weighs q = ap (λ (a : At). weight s.rows p a q) second

      others : (k h : ℕ) → k ≢ i → stand s.rows p s.hooks (second_at k h) ≤ stand s.rows p (set s.hooks id (moved v a4)) (second_at k h)
      others k h ne = let m = sums (moved v a4) (second_at k h) in let z = weighs (second_at k h) in let o = second_off s.rows p c j t k h ne in omega arith

      more : (k : ℕ) → stand s.rows p s.hooks (adding_at k) ≤ stand s.rows p (set s.hooks id (moved v a4)) (adding_at k)
      more k = let m = sums (moved v a4) (adding_at k) in let z = weighs (adding_at k) in omega arith

      still : (k e : ℕ) → stand s.rows p (set s.hooks id (moved v a4)) (pending_at k e) ≡ stand s.rows p s.hooks (pending_at k e)
      still k e = let m = sums (moved v a4) (pending_at k e) in let z = weighs (pending_at k e) in let o = pending_before s.rows p c j i k e in omega arith

      none_pending : cell ws i 1 ≡ 0 → (e : ℕ) → stand s.rows p s.hooks (pending_at i e) ≡ 0
      none_pending free e = sum_none (λ (x : HookView). weight s.rows p x.at (pending_at i e)) s.hooks
          (λ k u b. pending_none s.rows p (side s.rows s.words) u.phase u.made (length u.list) i e u.at (g.each_view k u b).standing free)

      -- the place had no second key
      pub second_took : cell (side s.rows s.words p) (place_of j.label t s.rows) 1 ≡ 0
          → IsGood (after_change s id (moved v (Adding p c j (place_of j.label t s.rows) false)) (set s.words (word_of s.rows p (place_of j.label t s.rows) 1) (pack2 j.label)))
      second_took free = let e = side_set s.rows s.words p i 1 (pack2 j.label) li (omega arith) in let grows = grows_key ws i 1 (pack2 j.label) (omega arith) free in let xs : List ℕ = put ws i 1 (pack2 j.label) in
          let has : Has xs i j.label = (grows.first i (λ z. pack1-ne-zero j.label (sym key ∙ z)) ∙ key, cell_here s.rows ws i 1 (pack2 j.label) own.wide li (omega arith)) in
          written i 1 (pack2 j.label) li (omega arith) a4 refl grows (r.phase, r.few, r.room, r.job, li, subst (λ (y : List ℕ). Has y i j.label) (sym e) has)
          (under a4 xs (second_set s.rows ws (stand s.rows p s.hooks) (stand s.rows p (set s.hooks id (moved v a4))) (tally p s.hooks) own i t j.label r.job.label r.turn refl key free r.tried (law p s.hooks)
          (λ e. still i e ∙ none_pending free e) others more (let m = sums (moved v a4) (adding_at i) in let z = weighs (adding_at i) in let o = adding_self s.rows p c j i false in omega arith) (λ k e _. still k e)))

      -- the place has the label's second key
      pub second_mine : cell (side s.rows s.words p) (place_of j.label t s.rows) 1 ≡ pack2 j.label → IsGood (after_change s id (moved v (Adding p c j (place_of j.label t s.rows) false)) s.words)
      second_mine mine = let ok = g.each_view id v at in stays (moved v a4) refl refl refl refl (λ q m ne. refl) record { phase = ok.phase; standing = (r.phase, r.few, r.room, r.job, li, (key, mine)); called = called_in v.made p v.at was ok.called; jobs = ok.jobs }
          (under a4 ws (stands_change s.rows ws (stand s.rows p s.hooks) (stand s.rows p (set s.hooks id (moved v a4))) (tally p s.hooks) own
          (λ k h z. others k h (λ e. pack2-ne-zero j.label r.job.label (sym mine ∙ (ap (λ (y : ℕ). cell ws y 1) (sym e) ∙ z)))) more still))

      pub second_passed : cell (side s.rows s.words p) (place_of j.label t s.rows) 1 ≢ 0 → cell (side s.rows s.words p) (place_of j.label t s.rows) 1 ≢ pack2 j.label → IsGood (after_change s id (next_turn s.rows v p c j t) s.words)
      second_passed some_key other = passed ((λ z. pack1-ne-zero j.label (sym key ∙ z)), λ _. (some_key, other))
          (λ k h z. weighs (second_at k h) ∙ second_off s.rows p c j t k h (λ e. some_key (ap (λ (y : ℕ). cell ws y 1) (sym e) ∙ z))) (λ k. weighs (adding_at k)) (λ k e. weighs (pending_at k e))

  -- the view adds at the row k
  module _ (c k : ℕ) (j : Job) (d : Bool) (adds : v.at ≡ Adding p c j k d) where
    abbrev dir : ℕ
    dir = direction j.dir

    holds : Standing s.rows (side s.rows s.words) v.phase v.made (length v.list) (Adding p c j k d)
    holds = subst (Standing s.rows (side s.rows s.words) v.phase v.made (length v.list)) adds (g.each_view id v at).standing

    weigh : (q : Probe) → weight s.rows p v.at q ≡ weight s.rows p (Adding p c j k d) q
    weigh q = ap (λ (a : At). weight s.rows p a q) adds

    low : dir < 2
    low = egress_low j.dir

    module _ (first : d ≡ false) where
      abbrev a5 : At
      a5 = Adding p c j k true

      weigh5 : (q : Probe) → weight s.rows p v.at q ≡ weight s.rows p (Adding p c j k false) q
      weigh5 q = weigh q ∙ ap (λ (b : Bool). weight s.rows p (Adding p c j k b) q) first

      pub added_packets : (x : ℕ) → x ≡ cell (side s.rows s.words p) k (2 + 2 * direction j.dir) + j.packets → IsGood (after_change s id (moved v (Adding p c j k true)) (set s.words (word_of s.rows p k (2 + 2 * direction j.dir)) x))
      added_packets x is_x = let h = holds in let lk : k < s.rows = h.4 in let ld = low in let col : 2 + 2 * dir < 6 = omega arith in let e = side_set s.rows s.words p k (2 + 2 * dir) x lk col in
          let grows = grows_number ws k (2 + 2 * dir) x (omega arith) col in let S' : Probe → ℕ = stand s.rows p (set s.hooks id (moved v a5)) in
          written k (2 + 2 * dir) x lk col a5 refl grows (
            h.0,
            h.1,
            h.2,
            h.3,
            h.4,
            subst (λ (y : List ℕ). Has y k j.label) (sym e)
                (grows.first k (λ z. pack1-ne-zero j.label (sym h.5.0 ∙ z)) ∙ h.5.0, grows.second k (λ z. pack2-ne-zero j.label h.3.label (sym h.5.1 ∙ z)) ∙ h.5.1),
          )
          (under a5 (put ws k (2 + 2 * dir) x) (packets_added s.rows ws (stand s.rows p s.hooks) S' (tally p s.hooks) own k dir j.packets x lk ld is_x (λ z. pack2-ne-zero j.label h.3.label (sym h.5.1 ∙ z))
          (λ a b. let m = sums (moved v a5) (second_at a b) in let z = weigh5 (second_at a b) in omega arith)
          (λ a. let m = sums (moved v a5) (adding_at a) in let z = weigh5 (adding_at a) in omega arith)
          (let m = sums (moved v a5) (pending_at k dir) in let z = weigh5 (pending_at k dir) in let o = pending_before s.rows p c j k k dir in let n = pending_self s.rows p c j k in omega arith)
          (λ a b ne. let m = sums (moved v a5) (pending_at a b) in let z = weigh5 (pending_at a b) in let o = pending_before s.rows p c j k a b in let n = pending_off s.rows p c j k a b ne in omega arith)))

    module _ (done : d ≡ true) where
      abbrev w7 : HookView
      w7 = recorded v p c j true

      weigh7 : (q : Probe) → weight s.rows p v.at q ≡ weight s.rows p (Adding p c j k true) q
      weigh7 q = weigh q ∙ ap (λ (b : Bool). weight s.rows p (Adding p c j k b) q) done

      joined : (q : ℕ) (m : Measure) → sum_by (measure q m) (v.list ++ charge p j true ∷ []) ≡ sum_by (measure q m) v.list + measure q m (charge p j true)
      joined q m = sum_by_push (measure q m) v.list (charge p j true)

      gains : (m : Measure) → tally p (set s.hooks id w7) m ≡ tally p s.hooks m + measure p m (charge p j true)
      gains m = let e = lists w7 m in let f = joined p m in omega arith

      view7 : (xs : ℕ → List ℕ) → ViewIsGood s.rows N xs w7
      view7 xs = let ok = g.each_view id v at in let h = holds in let few = h.1 in let room = h.2 in let long = length-append v.list (charge p j true ∷ []) in
          record {
            phase = ok.phase;
            standing = (h.0, omega arith, omega arith);
            called = called_in v.made p v.at was ok.called;
            jobs = each_snoc (λ (y : Charge). IsValidJob y.job × (y.phase ≤ N)) (λ (y : Charge). IsValidJob y.job × (y.phase ≤ N)) v.list (charge p j true) ok.jobs
                (h.3, subst (λ (z : ℕ). z ≤ N) (sym h.0) ok.phase) (λ y z. z);
          }

      rows7 : (x : ℕ) → x ≡ cell (side s.rows s.words p) k (3 + 2 * direction j.dir) + j.bytes → RowsAreGood s.rows (put ws k (3 + 2 * direction j.dir) x) (stand s.rows p (set s.hooks id w7)) (tally p (set s.hooks id w7))
      rows7 x is_x = let h = holds in let S' : Probe → ℕ = stand s.rows p (set s.hooks id w7) in let T' : Measure → ℕ = tally p (set s.hooks id w7) in
          bytes_added s.rows ws (stand s.rows p s.hooks) S' (tally p s.hooks) own T' k dir j.packets j.bytes x j.label h.4 low h.3.label h.5 is_x
          (λ a b. let m = sums w7 (second_at a b) in let z = weigh7 (second_at a b) in omega arith)
          (λ a ne. let m = sums w7 (adding_at a) in let z = weigh7 (adding_at a) in let o = adding_off s.rows p c j k a true ne in omega arith)
          (let m = sums w7 (pending_at k dir) in let z = weigh7 (pending_at k dir) in let n = pending_self s.rows p c j k in omega arith)
          (λ a b ne. let m = sums w7 (pending_at a b) in let z = weigh7 (pending_at a b) in let n = pending_off s.rows p c j k a b ne in omega arith)
          (λ l. let e = gains (missed l) in omega arith)
          (λ l e. (gains (landed l) ∙ ap (λ (z : ℕ). tally p s.hooks (landed l) + z) (landed_on p j l e), gains (packets l dir) ∙ ap (λ (z : ℕ). tally p s.hooks (packets l dir) + z) (packets_on p j l e), gains (bytes l dir) ∙ ap (λ (z : ℕ). tally p s.hooks (bytes l dir) + z) (bytes_on p j l e)))
          (λ l e ne. (let m = gains (packets l e) in let o = packets_off p j l e (inr ne) in omega arith, let m = gains (bytes l e) in let o = bytes_off p j l e (inr ne) in omega arith))
          (λ l e. (let m = gains (landed l) in let o = landed_off p j l e in omega arith, let m = gains (packets l dir) in let o = packets_off p j l dir (inl e) in omega arith, let m = gains (bytes l dir) in let o = bytes_off p j l dir (inl e) in omega arith))

      pub added_bytes : (x : ℕ) → x ≡ cell (side s.rows s.words p) k (3 + 2 * direction j.dir) + j.bytes → IsGood (after_change s id (recorded v p c j true) (set s.words (word_of s.rows p k (3 + 2 * direction j.dir)) x))
      added_bytes x is_x = let h = holds in let lk : k < s.rows = h.4 in let ld = low in let col : 3 + 2 * dir < 6 = omega arith in let e = side_set s.rows s.words p k (3 + 2 * dir) x lk col in
          let grows = grows_number ws k (3 + 2 * dir) x (omega arith) col in keeps_change s g id p v w7 (set s.words (word_of s.rows p k (3 + 2 * dir)) x) at record {
            was = was;
            now = refl;
            left = refl;
            made = refl;
            phase = refl;
            list = λ q m ne. let f = joined q m in let z = measure_else q p m j true ne in omega arith;
            wide = length-set s.words (word_of s.rows p k (3 + 2 * dir)) x;
            other_side = λ q ne. side_else s.rows s.words p q k (3 + 2 * dir) x ne lk col;
            grows = subst (Grows ws) (sym e) grows;
            view = view7 (side s.rows (set s.words (word_of s.rows p k (3 + 2 * dir)) x));
            rows = subst (λ (y : List ℕ). RowsAreGood s.rows y (stand s.rows p (set s.hooks id w7)) (tally p (set s.hooks id w7))) (sym e) (rows7 x is_x);
          }
