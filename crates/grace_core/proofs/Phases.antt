-- What a good state says of phases and sides.
use Rattle.std.proofs.Common.{◌≡◌, ◌≢◌, ◌⊎◌, ℕ, ◌+◌, ◌*◌, ◌<◌, Bool, true, false, cond, not, ◌&&◌, ◌==◌, List, [], ◌∷◌, set, refl, sym, ap, ◌∙◌, subst, ⊎_elim, arith, eq-eqb}
use Rattle.std.specs.Prelude.{Option, None, Some, slice_get, nat_lt, nat_le}
use Rattle.acct_base.specs.declared.charge.Job.{Job}
use Rattle.acct_base.specs.declared.label.Label.{Label}
use Rattle.acct_base.specs.Amounts.{IsValidLabel}
use Rattle.row_probe.specs.Places.{place_of}
use Rattle.row_probe.specs.Keys.{pack1, pack2}
use Rattle.row_probe.proofs.Turns.{place-lt}
use Rattle.grace_core.specs.declared.view.HookView.{HookView}
use Rattle.grace_core.specs.declared.view.At.{At}
use Rattle.grace_core.specs.declared.view.At.TheVariants.{Outside, Inside, First, Second, Adding}
use Rattle.grace_core.specs.declared.state.State.{State}
use Rattle.grace_core.specs.declared.state.CollectAt.{CollectAt}
use Rattle.grace_core.specs.declared.state.CollectAt.TheVariants.{Resting, Waiting, Draining}
use Rattle.grace_core.specs.declared.event.Event.{Event}
use Rattle.grace_core.specs.declared.event.Event.TheVariants as event
use Rattle.grace_core.specs.Machine.{direction, exits_at, old_phase, word_of, claim_first, claim_second, same_job, is_valid_job, at_hook, enter, first_claim, second_claim, add, exit, split, join, flip, load_exits, take_word, reopen, collector_at, after, or_same, after_all}
use Rattle.grace_core.specs.Sums.{Within, stand, tally}
use Rattle.grace_core.specs.Rows.{Has}
use Rattle.grace_core.specs.Good.{side, EachView, StageIsGood, WaitingIsGood, IsGood}
use Rattle.grace_core.specs.Phases.{NobodyInside, IsUsed, WaitsForNobody, other_side, IsOfHook}
use Rattle.grace_core.proofs.Items.{some-injective, some-ne-none}
use Rattle.grace_core.proofs.Sides.{side_else}
use Rattle.grace_core.proofs.Claims.{egress_low}
use Rattle.grace_core.proofs.RowSteps.{one_row}
use Rattle.grace_core.proofs.Changes.{rows_of}
use Rattle.grace_core.proofs.Collects.{within_map}
use Rattle.grace_core.proofs.Events.{standing, row_below}
use Rattle.grace_core.proofs.Keeps.{passes, found, keeps, next_is_good}

-- ---- a phase that all have left is never entered again

-- the phase is over: it is neither live nor waited for
abbrev IsOver : ℕ → ℕ → CollectAt → Type 0
IsOver n live Resting = n < live
IsOver n live (Waiting entries) = n + 1 < live
IsOver n live (Draining next taken) = n < live

nobody : (s : State) (n : ℕ) (k : CollectAt) → StageIsGood s k → IsOver n s.collector.phase k → NobodyInside n s.hooks
nobody s n Resting k over = λ j v at. within_map (λ p. p ≡ s.collector.phase) (λ p. p ≢ n) (λ p e h. omega arith) v.at (k.within j v at)
nobody s n (Waiting entries) k over = λ j v at. let i = k.old_is in within_map (λ p. (p ≡ s.collector.phase) ⊎ (p ≡ k.old)) (λ p. p ≢ n) (λ p e h. ⊎_elim (λ (a : p ≡ s.collector.phase). omega arith) (λ (b : p ≡ k.old). omega arith) e) v.at (k.within j v at)
nobody s n (Draining next taken) k over = λ j v at. within_map (λ p. p ≡ s.collector.phase) (λ p. p ≢ n) (λ p e h. omega arith) v.at (k.within j v at)

abbrev Over : ℕ → State → Type 0
Over n s = IsOver n s.collector.phase s.collector.at

module _ (s : State) (n : ℕ) (over : Over n s) (s' : State) where
  -- a hook's step leaves the collector alone
  enter_over : (id : ℕ) (v : HookView) (a : At) → enter s id v a ≡ Some s' → Over n s'
  enter_over id v Outside e = subst (Over n) (passes (nat_lt 0 v.left) _ s' e).1 over
  enter_over id v _ e = absurd (some-ne-none s' (sym e))

  first_over : (id : ℕ) (v : HookView) (j : Job) (a : At) → first_claim s id v j a ≡ Some s' → Over n s'
  first_over id v j (Inside p c) e = subst (Over n) (passes (nat_lt c 2 && is_valid_job j) (claim_first s id v p c j 0) s' e).1 over
  first_over id v j (First p c own t) e = subst (Over n) (passes (same_job own j) (claim_first s id v p c own t) s' e).1 over
  first_over id v j _ e = absurd (some-ne-none s' (sym e))

  second_over : (id : ℕ) (v : HookView) (a : At) → second_claim s id v a ≡ Some s' → Over n s'
  second_over id v (Second p c j t) e = subst (Over n) (some-injective _ s' e) over
  second_over id v _ e = absurd (some-ne-none s' (sym e))

  add_over : (id : ℕ) (v : HookView) (a : At) → add s id v a ≡ Some s' → Over n s'
  add_over id v (Adding p c j r false) e = subst (Over n) (some-injective _ s' e) over
  add_over id v (Adding p c j r true) e = subst (Over n) (some-injective _ s' e) over
  add_over id v _ e = absurd (some-ne-none s' (sym e))

  exit_over : (id : ℕ) (v : HookView) (a : At) → exit s id v a ≡ Some s' → Over n s'
  exit_over id v (Inside p c) e = subst (Over n) (some-injective _ s' e) over
  exit_over id v _ e = absurd (some-ne-none s' (sym e))

  split_over : (id m : ℕ) (v : HookView) (a : At) → split s id m v a ≡ Some s' → Over n s'
  split_over id m v Outside e = subst (Over n) (passes (nat_le m v.left) _ s' e).1 over
  split_over id m v _ e = absurd (some-ne-none s' (sym e))

  join_over : (id other : ℕ) (v u : HookView) (a b : At) → join s id other v u a b ≡ Some s' → Over n s'
  join_over id other v u Outside Outside e = subst (Over n) (passes (not (id == other)) _ s' e).1 over
  join_over id other v u _ _ e = absurd (some-ne-none s' (sym e))

  -- the collector's steps go on from phase to phase
  flip_over : (k : CollectAt) → s.collector.at ≡ k → flip s k ≡ Some s' → Over n s'
  flip_over Resting rests e = subst (Over n) (passes (nat_lt s.collector.phase 1024) _ s' e).1 (let h : n < s.collector.phase = subst (IsOver n s.collector.phase) rests over in omega arith)
  flip_over (Waiting m) rests e = absurd (some-ne-none s' (sym e))
  flip_over (Draining next taken) rests e = absurd (some-ne-none s' (sym e))

  loaded_over : (b : Bool) → n + 1 < s.collector.phase → Over n (cond b (collector_at s (Draining 0 [])) s)
  loaded_over true h = omega arith
  loaded_over false h = over

  load_over : (k : CollectAt) → s.collector.at ≡ k → load_exits s k ≡ Some s' → Over n s'
  load_over (Waiting entries) waits e = subst (Over n) (some-injective _ s' e) (loaded_over (exits_at s.exits (old_phase s) == entries) (subst (IsOver n s.collector.phase) waits over))
  load_over Resting waits e = absurd (some-ne-none s' (sym e))
  load_over (Draining next taken) waits e = absurd (some-ne-none s' (sym e))

  take_over : (k : CollectAt) → s.collector.at ≡ k → take_word s k ≡ Some s' → Over n s'
  take_over (Draining next taken) drains e = subst (Over n) (passes (nat_lt next (6 * s.rows)) _ s' e).1 (let h : n < s.collector.phase = subst (IsOver n s.collector.phase) drains over in h)
  take_over Resting drains e = absurd (some-ne-none s' (sym e))
  take_over (Waiting m) drains e = absurd (some-ne-none s' (sym e))

  reopen_over : (k : CollectAt) → s.collector.at ≡ k → reopen s k ≡ Some s' → Over n s'
  reopen_over (Draining next taken) drains e = subst (Over n) (passes (next == 6 * s.rows) _ s' e).1 (let h : n < s.collector.phase = subst (IsOver n s.collector.phase) drains over in h)
  reopen_over Resting drains e = absurd (some-ne-none s' (sym e))
  reopen_over (Waiting m) drains e = absurd (some-ne-none s' (sym e))

  at_view : (id : ℕ) (next : HookView → Option State) → ((v : HookView) → next v ≡ Some s' → Over n s') → at_hook s id next ≡ Some s' → Over n s'
  at_view id next h e = let f = found (slice_get s.hooks id) next s' e in h f.0 f.2

  stays_over : (e : Event) → after s e ≡ Some s' → Over n s'
  stays_over (event.Enter h) e = at_view h (λ v. enter s h v v.at) (λ v k. enter_over h v v.at k) e
  stays_over (event.ClaimFirst h j) e = at_view h (λ v. first_claim s h v j v.at) (λ v k. first_over h v j v.at k) e
  stays_over (event.ClaimSecond h) e = at_view h (λ v. second_claim s h v v.at) (λ v k. second_over h v v.at k) e
  stays_over (event.Add h) e = at_view h (λ v. add s h v v.at) (λ v k. add_over h v v.at k) e
  stays_over (event.Exit h) e = at_view h (λ v. exit s h v v.at) (λ v k. exit_over h v v.at k) e
  stays_over (event.Split h m) e = at_view h (λ v. split s h m v v.at) (λ v k. split_over h m v v.at k) e
  stays_over (event.Join h o) e = at_view h (λ v. at_hook s o (λ u. join s h o v u v.at u.at)) (λ v k. at_view o (λ u. join s h o v u v.at u.at) (λ u q. join_over h o v u v.at u.at q) k) e
  stays_over event.Flip e = flip_over s.collector.at refl e
  stays_over event.LoadExits e = load_over s.collector.at refl e
  stays_over event.TakeWord e = take_over s.collector.at refl e
  stays_over event.Reopen e = reopen_over s.collector.at refl e

next_over : (s : State) (n : ℕ) → Over n s → (e : Event) (o : Option State) → after s e ≡ o → Over n (or_same s o)
next_over s n over e None h = over
next_over s n over e (Some s') h = stays_over s n over s' e h

nobody_enters : (s : State) → IsGood s → (n : ℕ) → Over n s → (es : List Event) → NobodyInside n (after_all s es).hooks
nobody_enters s g n over [] = nobody s n s.collector.at g.stage over
nobody_enters s g n over (e ∷ es) = nobody_enters (or_same s (after s e)) (next_is_good s g e (after s e) refl) n (next_over s n over e (after s e) refl) es

-- where all that entered have left, nobody is inside the old phase, and nobody will be
pub left_for_good : (s : State) → IsGood s → (entries : ℕ) (es : List Event) → s.collector.at ≡ Waiting entries → exits_at s.exits (old_phase s) ≡ entries → NobodyInside (old_phase s) (after_all s (event.LoadExits ∷ es)).hooks
left_for_good s g entries es waits left = let next : State = collector_at s (Draining 0 []) in
    let e : after s event.LoadExits ≡ Some next = ap (load_exits s) waits ∙ ap (λ (b : Bool). Some (cond b next s)) (eq-eqb (exits_at s.exits (old_phase s)) entries left) in
    let k : WaitingIsGood s entries = subst (StageIsGood s) waits g.stage in let i = k.old_is in
    subst (λ (o : Option State). NobodyInside (old_phase s) (after_all (or_same s o) es).hooks) (sym e) (nobody_enters next (keeps s g next event.LoadExits e) (old_phase s) (let h : old_phase s < s.collector.phase = omega arith in h) es)

-- ---- a label stands in one row of a phase in use

pub one_row_each : (s : State) → IsGood s → (p : ℕ) (l : Label) (i j : ℕ) → IsUsed p s.collector.phase s.collector.at → IsValidLabel l → i < s.rows → j < s.rows → Has (side s.rows s.words p) i l → Has (side s.rows s.words p) j l → i ≡ j
one_row_each s g p l i j used v li lj a b = one_row s.rows (side s.rows s.words p) (stand s.rows p s.hooks) (tally p s.hooks) (rows_of s g p s.collector.at g.stage used) l i j v li lj a b

-- ---- no hook writes to a side that is not in use

module _ (s : State) (g : IsGood s) (alone : WaitsForNobody s.collector.at) (s' : State) where
  all_live : (k : CollectAt) → WaitsForNobody k → StageIsGood s k → EachView s.hooks (λ v. Within (λ p. p ≡ s.collector.phase) v.at)
  all_live Resting w k = k.within
  all_live (Draining next taken) w k = k.within
  all_live (Waiting entries) w k = absurd w

  abbrev Same : State → Type 0
  Same t = other_side t ≡ other_side s

  -- a word of the live side changes
  written : (p i c x : ℕ) → p ≡ s.collector.phase → i < s.rows → c < 6 → side s.rows (set s.words (word_of s.rows p i c) x) (s.collector.phase + 1) ≡ other_side s
  written p i c x e li lc = side_else s.rows s.words p (s.collector.phase + 1) i c x (λ h. omega arith) li lc

  module _ (id : ℕ) (v : HookView) (at : slice_get s.hooks id ≡ Some v) where
    live_at : (a : At) → v.at ≡ a → Within (λ p. p ≡ s.collector.phase) a
    live_at a e = subst (Within (λ p. p ≡ s.collector.phase)) e (all_live s.collector.at alone g.stage id v at)

    enter_same : (a : At) → enter s id v a ≡ Some s' → Same s'
    enter_same Outside e = subst Same (passes (nat_lt 0 v.left) _ s' e).1 refl
    enter_same _ e = absurd (some-ne-none s' (sym e))

    first_same : (j : Job) (a : At) → v.at ≡ a → first_claim s id v j a ≡ Some s' → Same s'
    first_same j (Inside p c) here e = let size = g.size.0 in subst Same (passes (nat_lt c 2 && is_valid_job j) (claim_first s id v p c j 0) s' e).1
        (written p (place_of j.label 0 s.rows) 0 _ (live_at (Inside p c) here) (place-lt (pack1 j.label) (pack2 j.label) 0 s.rows (omega arith)) (omega arith))
    first_same j (First p c own t) here e = subst Same (passes (same_job own j) (claim_first s id v p c own t) s' e).1
        (written p (place_of own.label t s.rows) 0 _ (live_at (First p c own t) here) (place-lt (pack1 own.label) (pack2 own.label) t s.rows (standing s g id v at p c own (First p c own t) here).4) (omega arith))
    first_same j _ here e = absurd (some-ne-none s' (sym e))

    second_same : (a : At) → v.at ≡ a → second_claim s id v a ≡ Some s' → Same s'
    second_same (Second p c j t) here e = subst Same (some-injective (claim_second s id v p c j t) s' e)
        (written p (place_of j.label t s.rows) 1 _ (live_at (Second p c j t) here) (place-lt (pack1 j.label) (pack2 j.label) t s.rows (standing s g id v at p c j (Second p c j t) here).4) (omega arith))
    second_same _ here e = absurd (some-ne-none s' (sym e))

    add_same : (a : At) → v.at ≡ a → add s id v a ≡ Some s' → Same s'
    add_same (Adding p c j r false) here e = let low = egress_low j.dir in subst Same (some-injective _ s' e) (written p r (2 + 2 * direction j.dir) _ (live_at (Adding p c j r false) here) (row_below s g id v at p c j r false here) (omega arith))
    add_same (Adding p c j r true) here e = let low = egress_low j.dir in subst Same (some-injective _ s' e) (written p r (3 + 2 * direction j.dir) _ (live_at (Adding p c j r true) here) (row_below s g id v at p c j r true here) (omega arith))
    add_same _ here e = absurd (some-ne-none s' (sym e))

    exit_same : (a : At) → exit s id v a ≡ Some s' → Same s'
    exit_same (Inside p c) e = subst Same (some-injective _ s' e) refl
    exit_same _ e = absurd (some-ne-none s' (sym e))

    split_same : (n : ℕ) (a : At) → split s id n v a ≡ Some s' → Same s'
    split_same n Outside e = subst Same (passes (nat_le n v.left) _ s' e).1 refl
    split_same n _ e = absurd (some-ne-none s' (sym e))

    join_same : (other : ℕ) (u : HookView) (a b : At) → join s id other v u a b ≡ Some s' → Same s'
    join_same other u Outside Outside e = subst Same (passes (not (id == other)) _ s' e).1 refl
    join_same other u _ _ e = absurd (some-ne-none s' (sym e))

  by_view : (id : ℕ) (next : HookView → Option State) → ((v : HookView) → slice_get s.hooks id ≡ Some v → next v ≡ Some s' → Same s') → at_hook s id next ≡ Some s' → Same s'
  by_view id next h e = let f = found (slice_get s.hooks id) next s' e in h f.0 f.1 f.2

  pub other_side_stays : (e : Event) → IsOfHook e → after s e ≡ Some s' → other_side s' ≡ other_side s
  other_side_stays (event.Enter h) o e = by_view h (λ v. enter s h v v.at) (λ v at k. enter_same h v at v.at k) e
  other_side_stays (event.ClaimFirst h j) o e = by_view h (λ v. first_claim s h v j v.at) (λ v at k. first_same h v at j v.at refl k) e
  other_side_stays (event.ClaimSecond h) o e = by_view h (λ v. second_claim s h v v.at) (λ v at k. second_same h v at v.at refl k) e
  other_side_stays (event.Add h) o e = by_view h (λ v. add s h v v.at) (λ v at k. add_same h v at v.at refl k) e
  other_side_stays (event.Exit h) o e = by_view h (λ v. exit s h v v.at) (λ v at k. exit_same h v at v.at k) e
  other_side_stays (event.Split h n) o e = by_view h (λ v. split s h n v v.at) (λ v at k. split_same h v at n v.at k) e
  other_side_stays (event.Join h q) o e = by_view h (λ v. at_hook s q (λ u. join s h q v u v.at u.at)) (λ v at k. by_view q (λ u. join s h q v u v.at u.at) (λ u at' k'. join_same h v at q u v.at u.at k') k) e
  other_side_stays event.Flip o e = absurd o
  other_side_stays event.LoadExits o e = absurd o
  other_side_stays event.TakeWord o e = absurd o
  other_side_stays event.Reopen o e = absurd o
