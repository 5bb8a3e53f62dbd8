-- Every event keeps a good state.
use Rattle.std.proofs.Common.{◌≡◌, ◌≢◌, ℕ, ◌+◌, ◌*◌, ◌/◌, ◌^◌, ◌<◌, ◌≤◌, Bool, true, false, cond, not, ◌&&◌, ◌==◌, List, [], ◌∷◌, set, replicate, sym, refl, ap, ◌∙◌, subst, arith}
use Rattle.std.specs.declared.alloc.AllocError.{AllocError}
use Rattle.std.specs.Prelude.{Option, None, Some, Result, Ok, Err, IfOk, OnErr, slice_get, nat_lt, nat_le, option_and_then}
use Rattle.std.proofs.lemmas.Bool.Decides.{nat_tests}
use Rattle.std.proofs.lemmas.Bool.{eqb-true, and_parts}
use lib.ListN.{length-replicate}
use Rattle.acct_base.specs.declared.charge.Job.{Job}
use Rattle.acct_base.specs.declared.label.Label.{Label}
use Rattle.acct_base.specs.Amounts.{IsValidLabel, is_valid_label}
use Rattle.grace_core.specs.declared.view.HookView.{HookView}
use Rattle.grace_core.specs.declared.view.At.{At}
use Rattle.grace_core.specs.declared.view.At.TheVariants.{Outside, Inside, First, Second, Adding}
use Rattle.grace_core.specs.declared.state.State.{State}
use Rattle.grace_core.specs.declared.state.CollectAt.{CollectAt}
use Rattle.grace_core.specs.declared.state.CollectAt.TheVariants.{Resting, Waiting, Draining}
use Rattle.grace_core.specs.declared.event.Event.{Event}
use Rattle.grace_core.specs.declared.event.Event.TheVariants as event
use Rattle.grace_core.specs.Machine.{IsValidJob, is_chargeable, is_valid_job, same_job, exits_at, live_phase, old_phase, entered, claim_first, claim_second, add_packets, add_bytes, where_passes, at_hook, enter, first_claim, second_claim, add, exit, split, join, flip, load_exits, take_word, reopen, collector_at, ascending_rows, after, or_same, after_all, started, Steps}
use Rattle.grace_core.specs.Sums.{weight}
use Rattle.grace_core.specs.Good.{StageIsGood, WaitingIsGood, DrainingIsGood, IsGood}
use Rattle.grace_core.proofs.Items.{some-injective, some-ne-none}
use Rattle.grace_core.proofs.Within.{In}
use Rattle.grace_core.proofs.Quiet.{keeps_enter, keeps_exit}
use Rattle.grace_core.proofs.Events.{standing, keeps_first_claim, keeps_second_claim, keeps_add_packets, keeps_add_bytes}
use Rattle.grace_core.proofs.Seats.{keeps_split, keeps_join}
use Rattle.grace_core.proofs.Collects.{keeps_flip, keeps_clear, keeps_take, keeps_reopen}
use Rattle.grace_core.proofs.Beginning.{keeps_start, replicate_zero}
use Rattle.grace_core.proofs.Bounds.{made_below}
use Rattle.grace_core.proofs.Snapshots.{taken_rows_are_good}

-- ---- options and tests

pub passes : {A : Type 0} (b : Bool) (x y : A) → where_passes b x ≡ Some y → (b ≡ true) × (x ≡ y)
passes true x y e = (refl, some-injective x y e)
passes false x y e = absurd (some-ne-none y (sym e))

pub found : (o : Option HookView) (next : HookView → Option State) (s' : State) → option_and_then next o ≡ Some s' → (v : HookView) × (o ≡ Some v) × (next v ≡ Some s')
found None next s' e = absurd (some-ne-none s' (sym e))
found (Some v) next s' e = (v, refl, e)

pub lt_from : (a b : ℕ) → nat_lt a b ≡ true → a < b
lt_from a b e = grind (arith, nat_tests)

pub le_from : (a b : ℕ) → nat_le a b ≡ true → a ≤ b
le_from a b e = grind (arith, nat_tests)

pub valid_label : (l : Label) → is_valid_label l ≡ true → IsValidLabel l
valid_label l e = let a = and_parts (nat_lt l.uid 4294967295 && nat_lt l.tag (2 ^ 32) && nat_le l.set 1 && nat_le 1 l.iface) (nat_le l.iface 16777215) e in
    let b = and_parts (nat_lt l.uid 4294967295 && nat_lt l.tag (2 ^ 32) && nat_le l.set 1) (nat_le 1 l.iface) a.0 in
    let c = and_parts (nat_lt l.uid 4294967295 && nat_lt l.tag (2 ^ 32)) (nat_le l.set 1) b.0 in
    let d = and_parts (nat_lt l.uid 4294967295) (nat_lt l.tag (2 ^ 32)) c.0 in record {
      uid = lt_from l.uid 4294967295 d.0;
      tag = lt_from l.tag (2 ^ 32) d.1;
      set = le_from l.set 1 c.1;
      some_iface = le_from 1 l.iface b.1;
      iface = le_from l.iface 16777215 a.1;
    }

pub valid_job : (j : Job) → is_valid_job j ≡ true → IsValidJob j
valid_job j e = let a = and_parts (is_valid_label j.label && is_chargeable j.packets) (is_chargeable j.bytes) e in let b = and_parts (is_valid_label j.label) (is_chargeable j.packets) a.0 in
    let c = and_parts (nat_le 1 j.packets) (nat_le j.packets 524287) b.1 in let d = and_parts (nat_le 1 j.bytes) (nat_le j.bytes 524287) a.1 in record {
      label = valid_label j.label b.0;
      amount = record {
        some_packets = le_from 1 j.packets c.0;
        few_packets = le_from j.packets 524287 c.1;
        some_bytes = le_from 1 j.bytes d.0;
        few_bytes = le_from j.bytes 524287 d.1;
      };
    }

pub different : (a b : ℕ) → not (a == b) ≡ true → a ≢ b
different a b e = grind (arith, nat_tests)

-- ---- the choice

pub choice_below : (s : State) → IsGood s → (s.choice / 4294967296 ≡ s.collector.phase) × (s.choice + 1 < 18446744073709551616) × (s.collector.phase ≤ 1024)
choice_below s g = let c = g.choice_is in let b = made_below s.hooks in let sh = g.shared in let e = g.entries in let z = g.size.3 in let p = g.phases in omega arith

-- ---- steps of a hook

module _ (s : State) (g : IsGood s) (id : ℕ) (v : HookView) (at : slice_get s.hooks id ≡ Some v) (s' : State) where
  enter_step : (a : At) → v.at ≡ a → enter s id v a ≡ Some s' → IsGood s'
  enter_step Outside out e = let p = passes (nat_lt 0 v.left) (record s { choice = s.choice + 1; hooks = set s.hooks id (entered (live_phase s) v) }) s' e in
      subst IsGood p.1 (subst (λ (ph : ℕ). IsGood (record s { choice = s.choice + 1; hooks = set s.hooks id (entered ph v) })) (sym (choice_below s g).0) (keeps_enter s g id v at out (lt_from 0 v.left p.0)))
  enter_step _ out e = absurd (some-ne-none s' (sym e))

  first_step : (j : Job) (a : At) → v.at ≡ a → first_claim s id v j a ≡ Some s' → IsGood s'
  first_step j (Inside p c) here e = let t = passes (nat_lt c 2 && is_valid_job j) (claim_first s id v p c j 0) s' e in let b = and_parts (nat_lt c 2) (is_valid_job j) t.0 in
      let st = standing s g id v at p c j (Inside p c) here in let size = g.size.0 in subst IsGood t.1 (keeps_first_claim s g id v at p c j 0 (subst (In p) (sym here) refl) (λ q. ap (λ (y : At). weight s.rows p y q) here)
      record { phase = st.0; few = lt_from c 2 b.0; room = st.2; job = valid_job j b.1; turn = omega arith; tried = λ u lu. absurd (omega arith) })
  first_step j (First p c own t) here e = let k = passes (same_job own j) (claim_first s id v p c own t) s' e in
      let st = standing s g id v at p c own (First p c own t) here in subst IsGood k.1 (keeps_first_claim s g id v at p c own t (subst (In p) (sym here) refl) (λ q. ap (λ (y : At). weight s.rows p y q) here)
      record { phase = st.0; few = st.1; room = st.2; job = st.3; turn = st.4; tried = st.5 })
  first_step j _ here e = absurd (some-ne-none s' (sym e))

  second_step : (a : At) → v.at ≡ a → second_claim s id v a ≡ Some s' → IsGood s'
  second_step (Second p c j t) here e = subst IsGood (some-injective (claim_second s id v p c j t) s' e) (keeps_second_claim s g id v at p c j t here)
  second_step _ here e = absurd (some-ne-none s' (sym e))

  add_step : (a : At) → v.at ≡ a → add s id v a ≡ Some s' → IsGood s'
  add_step (Adding p c j r false) here e = subst IsGood (some-injective (add_packets s id v p c j r) s' e) (keeps_add_packets s g id v at p c j r here)
  add_step (Adding p c j r true) here e = subst IsGood (some-injective (add_bytes s id v p c j r) s' e) (keeps_add_bytes s g id v at p c j r here)
  add_step _ here e = absurd (some-ne-none s' (sym e))

  exit_step : (a : At) → v.at ≡ a → exit s id v a ≡ Some s' → IsGood s'
  exit_step (Inside p c) here e = subst IsGood (some-injective _ s' e) (keeps_exit s g id v at p c here)
  exit_step _ here e = absurd (some-ne-none s' (sym e))

  split_step : (n : ℕ) (a : At) → v.at ≡ a → split s id n v a ≡ Some s' → IsGood s'
  split_step n Outside out e = let p = passes (nat_le n v.left) _ s' e in subst IsGood p.1 (keeps_split s g id v at out n (le_from n v.left p.0))
  split_step n _ out e = absurd (some-ne-none s' (sym e))

  join_step : (other : ℕ) (u : HookView) → slice_get s.hooks other ≡ Some u → (a b : At) → v.at ≡ a → u.at ≡ b → join s id other v u a b ≡ Some s' → IsGood s'
  join_step other u at' Outside Outside out out' e = let p = passes (not (id == other)) _ s' e in
      subst IsGood p.1 (keeps_join s g id v at out other u (λ same. different id other p.0 (sym same)) at' out')
  join_step other u at' _ _ out out' e = absurd (some-ne-none s' (sym e))

-- ---- steps of the collector

module _ (s : State) (g : IsGood s) (s' : State) where
  flip_step : (k : CollectAt) → s.collector.at ≡ k → flip s k ≡ Some s' → IsGood s'
  flip_step Resting rests e = let p = passes (nat_lt s.collector.phase 1024) _ s' e in subst IsGood p.1 (keeps_flip s g rests (lt_from s.collector.phase 1024 p.0))
  flip_step (Waiting n) rests e = absurd (some-ne-none s' (sym e))
  flip_step (Draining next taken) rests e = absurd (some-ne-none s' (sym e))

  loaded : (b : Bool) (entries : ℕ) → s.collector.at ≡ Waiting entries → (exits_at s.exits (old_phase s) == entries) ≡ b → IsGood (cond b (collector_at s (Draining 0 [])) s)
  loaded true entries waits e = let k : WaitingIsGood s entries = subst (StageIsGood s) waits g.stage in let i = k.old_is in
      keeps_clear s g entries waits (old_phase s) (omega arith) (eqb-true (exits_at s.exits (old_phase s)) entries e)
  loaded false entries waits e = g

  load_step : (k : CollectAt) → s.collector.at ≡ k → load_exits s k ≡ Some s' → IsGood s'
  load_step (Waiting entries) waits e = subst IsGood (some-injective _ s' e) (loaded (exits_at s.exits (old_phase s) == entries) entries waits refl)
  load_step Resting waits e = absurd (some-ne-none s' (sym e))
  load_step (Draining next taken) waits e = absurd (some-ne-none s' (sym e))

  take_step : (k : CollectAt) → s.collector.at ≡ k → take_word s k ≡ Some s' → IsGood s'
  take_step (Draining next taken) drains e = let p = passes (nat_lt next (6 * s.rows)) _ s' e in let k : DrainingIsGood s next taken = subst (StageIsGood s) drains g.stage in let i = k.old_is in
      subst IsGood p.1 (keeps_take s g next taken drains (old_phase s) (omega arith) (lt_from next (6 * s.rows) p.0))
  take_step Resting drains e = absurd (some-ne-none s' (sym e))
  take_step (Waiting n) drains e = absurd (some-ne-none s' (sym e))

  reopen_step : (k : CollectAt) → s.collector.at ≡ k → reopen s k ≡ Some s' → IsGood s'
  reopen_step (Draining next taken) drains e = let p = passes (next == 6 * s.rows) _ s' e in let k : DrainingIsGood s next taken = subst (StageIsGood s) drains g.stage in let i = k.old_is in
      let all : next ≡ 6 * s.rows = eqb-true next (6 * s.rows) p.0 in
      subst IsGood p.1 (keeps_reopen s g taken (ascending_rows s.rows taken) (drains ∙ ap (λ (z : ℕ). Draining z taken) all) (old_phase s) (omega arith) (taken_rows_are_good s.rows taken (old_phase s) s.hooks))
  reopen_step Resting drains e = absurd (some-ne-none s' (sym e))
  reopen_step (Waiting n) drains e = absurd (some-ne-none s' (sym e))

-- ---- every event

module _ (s : State) (g : IsGood s) (s' : State) where
  at_view : (id : ℕ) (next : HookView → Option State) → ((v : HookView) → slice_get s.hooks id ≡ Some v → next v ≡ Some s' → IsGood s') → at_hook s id next ≡ Some s' → IsGood s'
  at_view id next h e = let f = found (slice_get s.hooks id) next s' e in h f.0 f.1 f.2

  pub keeps : (e : Event) → after s e ≡ Some s' → IsGood s'
  keeps (event.Enter h) e = at_view h (λ v. enter s h v v.at) (λ v at k. enter_step s g h v at s' v.at refl k) e
  keeps (event.ClaimFirst h j) e = at_view h (λ v. first_claim s h v j v.at) (λ v at k. first_step s g h v at s' j v.at refl k) e
  keeps (event.ClaimSecond h) e = at_view h (λ v. second_claim s h v v.at) (λ v at k. second_step s g h v at s' v.at refl k) e
  keeps (event.Add h) e = at_view h (λ v. add s h v v.at) (λ v at k. add_step s g h v at s' v.at refl k) e
  keeps (event.Exit h) e = at_view h (λ v. exit s h v v.at) (λ v at k. exit_step s g h v at s' v.at refl k) e
  keeps (event.Split h n) e = at_view h (λ v. split s h n v v.at) (λ v at k. split_step s g h v at s' n v.at refl k) e
  keeps (event.Join h o) e = at_view h (λ v. at_hook s o (λ u. join s h o v u v.at u.at))
      (λ v at k. at_view o (λ u. join s h o v u v.at u.at) (λ u at' k'. join_step s g h v at s' o u at' v.at u.at refl refl k') k) e
  keeps event.Flip e = flip_step s g s' s.collector.at refl e
  keeps event.LoadExits e = load_step s g s' s.collector.at refl e
  keeps event.TakeWord e = take_step s g s' s.collector.at refl e
  keeps event.Reopen e = reopen_step s g s' s.collector.at refl e

-- ---- every list of events

pub next_is_good : (s : State) → IsGood s → (e : Event) (o : Option State) → after s e ≡ o → IsGood (or_same s o)
next_is_good s g e None h = g
next_is_good s g e (Some s') h = keeps s g s' e h

pub keeps_all : (s : State) → IsGood s → (es : List Event) → IsGood (after_all s es)
keeps_all s g [] = g
keeps_all s g (e ∷ es) = keeps_all (or_same s (after s e)) (next_is_good s g e (after s e) refl) es

pub starts_good : (rows calls : ℕ) → 1 ≤ rows → rows ≤ 5000 → calls ≤ 268435456 → IsGood (started rows calls)
starts_good rows calls a b c = keeps_start rows calls (replicate (12 * rows) 0) a b c (length-replicate (12 * rows) 0) (replicate_zero (12 * rows))

-- ---- what the code does

pub made_or_not : (s s' : State) (e : Event) (done : Bool) → IsGood s → Steps (after s e) done s s' → IsGood s'
made_or_not s s' e true g h = keeps s g s' e h
made_or_not s s' e false g h = subst IsGood (sym h.1) g

pub outcome : (s s' : State) (e : Event) (r : Result Bool AllocError) → IsGood s → IfOk r (λ done. Steps (after s e) done s s') → OnErr r (s' ≡ s) → IsGood s'
outcome s s' e (Ok done) g h k = made_or_not s s' e done g h
outcome s s' e (Err x) g h k = subst IsGood (sym k) g

pub law_of_lists : (rows calls : ℕ) (es : List Event) → 1 ≤ rows → rows ≤ 5000 → 1 ≤ calls → calls ≤ 268435456 → IsGood (after_all (started rows calls) es)
law_of_lists rows calls es a b c d = keeps_all (started rows calls) (starts_good rows calls a b d) es
