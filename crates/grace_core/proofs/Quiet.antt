-- The events that change no row and no charge.
use Rattle.std.proofs.Common.{◌≡◌, ◌≢◌, ◌⊎◌, ℕ, ◌+◌, ◌*◌, ◌<◌, ◌≤◌, List, ◌++◌, length, drop, set, sym, refl, ap, ◌∙◌, subst, inl, inr, ⊎_elim, arith, le_refl}
use Rattle.std.specs.Prelude.{Some, slice_get}
use Rattle.grace_core.specs.declared.view.HookView.{HookView}
use Rattle.grace_core.specs.declared.state.State.{State}
use Rattle.grace_core.specs.declared.view.At.{At}
use Rattle.grace_core.specs.declared.view.At.TheVariants.{Outside, Inside}
use Rattle.grace_core.specs.declared.state.CollectAt.{CollectAt}
use Rattle.grace_core.specs.declared.state.CollectAt.TheVariants.{Resting, Waiting, Draining}
use Rattle.grace_core.specs.Sums.{Probe, Measure, Within, weight, stand, tally, inside, insiders, share, shares, makes, made_sum}
use Rattle.grace_core.specs.Rows.{RowsAreGood}
use Rattle.grace_core.specs.Good.{SnapshotIsGood, side, Standing, ViewIsGood, EachView, StageIsGood, IsGood}
use Rattle.grace_core.specs.Machine.{exits_at, entered, moved, one_more}
use Rattle.grace_core.proofs.Items.{each_set, sum_at, sum_same}
use Rattle.grace_core.proofs.Sums.{one_here, none_else, stand_same, tally_same}
use Rattle.grace_core.proofs.Sides.{exits_here, exits_next, exits_last}

abbrev pub after_enter : State → ℕ → HookView → State
after_enter s id v = record s { choice = s.choice + 1; hooks = set s.hooks id (entered s.collector.phase v) }

abbrev pub after_exit : State → ℕ → HookView → ℕ → State
after_exit s id v p = record s { exits = one_more s.exits p; hooks = set s.hooks id (moved v Outside) }

-- rows under other views that add up to the same
pub rows_under : (rows n : ℕ) (ws : List ℕ) (vs us : List HookView) → stand rows n us ≡ stand rows n vs → tally n us ≡ tally n vs → RowsAreGood rows ws (stand rows n vs) (tally n vs) → RowsAreGood rows ws (stand rows n us) (tally n us)
rows_under rows n ws vs us a b ok = subst (λ (z : (Probe → ℕ) × (Measure → ℕ)). RowsAreGood rows ws z.0 z.1) (λ i. (sym a i, sym b i)) ok

module _ (s : State) (g : IsGood s) (id : ℕ) (v : HookView) (at : slice_get s.hooks id ≡ Some v) where
  abbrev N : ℕ
  N = s.collector.phase

  module _ (out : v.at ≡ Outside) (can : 0 < v.left) where
    abbrev w : HookView
    w = entered N v

    stand_enter : (n : ℕ) → stand s.rows n (set s.hooks id w) ≡ stand s.rows n s.hooks
    stand_enter n = stand_same s.rows n s.hooks id v w at (λ q. sym (ap (λ (a : At). weight s.rows n a q) out))

    tally_enter : (n : ℕ) → tally n (set s.hooks id w) ≡ tally n s.hooks
    tally_enter n = tally_same n s.hooks id v w at (λ m. refl)

    inside_enter : insiders N (set s.hooks id w) ≡ insiders N s.hooks + 1
    inside_enter = let sum = sum_at (λ (x : HookView). inside N x.at) s.hooks id v w at in let was : inside N v.at ≡ 0 = ap (inside N) out in let is = one_here N in omega arith

    made_enter : made_sum (set s.hooks id w) ≡ made_sum s.hooks + 1
    made_enter = let sum = sum_at makes s.hooks id v w at in let was : makes v ≡ v.made = ap (λ (a : At). makes (moved v a)) out in omega arith

    share_enter : shares (set s.hooks id w) ≡ shares s.hooks
    share_enter = let sum = sum_at share s.hooks id v w at in let was : share v ≡ v.left + v.made = ap (λ (a : At). share (moved v a)) out in omega arith

    view_enter : ViewIsGood s.rows N (side s.rows s.words) w
    view_enter = let ok = g.each_view id v at in let room : length v.list ≤ 2 * v.made = subst (Standing s.rows (side s.rows s.words) v.phase v.made (length v.list)) out ok.standing in record {
      phase = le_refl N;
      standing = (refl, omega arith, omega arith);
      called = omega arith;
      jobs = ok.jobs;
    }

    stage_enter : (c : CollectAt) → StageIsGood s c → StageIsGood (after_enter s id v) c
    stage_enter Resting k = record {
      within = each_set (λ (x : HookView). Within (λ p. p ≡ N) x.at) (λ (x : HookView). Within (λ p. p ≡ N) x.at) s.hooks id w k.within refl (λ x h. h);
      clear = k.clear;
      no_exits = k.no_exits;
    }
    stage_enter (Waiting entered) k = let o = k.old in let apart : N ≢ o = λ e. omega arith in record {
      old = o;
      old_is = k.old_is;
      within = each_set (λ (x : HookView). Within (λ p. (p ≡ N) ⊎ (p ≡ o)) x.at) (λ (x : HookView). Within (λ p. (p ≡ N) ⊎ (p ≡ o)) x.at) s.hooks id w k.within (inl refl) (λ x h. h);
      entered_is = k.entered_is ∙ ap (λ (z : ℕ). exits_at s.exits o + z) (sym (sum_same (λ (x : HookView). inside o x.at) s.hooks id v w at (none_else N o apart ∙ sym (ap (inside o) out))));
      entered_most = let a = made_enter in let b = k.entered_most in omega arith;
      rows = rows_under s.rows o (side s.rows s.words o) s.hooks (set s.hooks id w) (stand_enter o) (tally_enter o) k.rows;
    }
    stage_enter (Draining next taken) k = record {
      old = k.old;
      old_is = k.old_is;
      within = each_set (λ (x : HookView). Within (λ p. p ≡ N) x.at) (λ (x : HookView). Within (λ p. p ≡ N) x.at) s.hooks id w k.within refl (λ x h. h);
      entered_most = let a = made_enter in let b = k.entered_most in omega arith;
      next_most = k.next_most;
      long = k.long;
      emptied = k.emptied;
      rows = subst (RowsAreGood s.rows (taken ++ drop next (side s.rows s.words k.old)) (λ _. 0)) (sym (tally_enter k.old)) k.rows;
    }

    pub keeps_enter : IsGood (after_enter s id v)
    keeps_enter = let a = inside_enter in let b = made_enter in record {
      size = g.size;
      shared = share_enter ∙ g.shared;
      choice_is = let c = g.choice_is in omega arith;
      phases = g.phases;
      entries = let c = g.entries in omega arith;
      each_view = each_set (ViewIsGood s.rows N (side s.rows s.words)) (ViewIsGood s.rows N (side s.rows s.words)) s.hooks id w g.each_view view_enter (λ x h. h);
      rows_now = rows_under s.rows N (side s.rows s.words N) s.hooks (set s.hooks id w) (stand_enter N) (tally_enter N) g.rows_now;
      stage = stage_enter s.collector.at g.stage;
      count = g.count;
      snaps = λ n q e. let k = g.snaps n q e in (k.0, subst (SnapshotIsGood s.rows q.rows) (sym (tally_enter n)) k.1);
    }

  module _ (p c : ℕ) (there : v.at ≡ Inside p c) where
    abbrev x : HookView
    x = moved v Outside

    stand_exit : (n : ℕ) → stand s.rows n (set s.hooks id x) ≡ stand s.rows n s.hooks
    stand_exit n = stand_same s.rows n s.hooks id v x at (λ q. sym (ap (λ (a : At). weight s.rows n a q) there))

    tally_exit : (n : ℕ) → tally n (set s.hooks id x) ≡ tally n s.hooks
    tally_exit n = tally_same n s.hooks id v x at (λ m. refl)

    inside_exit : insiders p (set s.hooks id x) + 1 ≡ insiders p s.hooks
    inside_exit = let sum = sum_at (λ (y : HookView). inside p y.at) s.hooks id v x at in let was : inside p v.at ≡ 1 = ap (inside p) there ∙ one_here p in omega arith

    inside_else : (n : ℕ) → p ≢ n → insiders n (set s.hooks id x) ≡ insiders n s.hooks
    inside_else n ne = sum_same (λ (y : HookView). inside n y.at) s.hooks id v x at (sym (ap (inside n) there ∙ none_else p n ne))

    made_exit : made_sum (set s.hooks id x) ≡ made_sum s.hooks
    made_exit = sum_same makes s.hooks id v x at (sym (ap (λ (a : At). makes (moved v a)) there))

    share_exit : shares (set s.hooks id x) ≡ shares s.hooks
    share_exit = sum_same share s.hooks id v x at (sym (ap (λ (a : At). share (moved v a)) there))

    view_exit : ViewIsGood s.rows N (side s.rows s.words) x
    view_exit = let ok = g.each_view id v at in let st = subst (Standing s.rows (side s.rows s.words) v.phase v.made (length v.list)) there ok.standing in record {
      phase = ok.phase;
      standing = let a = st.1 in let b = st.2 in omega arith;
      called = tt;
      jobs = ok.jobs;
    }

    within_exit : (P : ℕ → Type 0) → EachView s.hooks (λ (y : HookView). Within P y.at) → EachView (set s.hooks id x) (λ (y : HookView). Within P y.at)
    within_exit P k = each_set (λ (y : HookView). Within P y.at) (λ (y : HookView). Within P y.at) s.hooks id x k tt (λ y h. h)

    -- the phase is the live one, or the old one while the collector waits
    abbrev Leaves : CollectAt → Type 0
    Leaves Resting = p ≡ N
    Leaves (Waiting entered) = (p ≡ N) ⊎ (p + 1 ≡ N)
    Leaves (Draining next taken) = p ≡ N

    leaves : (k : CollectAt) → StageIsGood s k → Leaves k
    leaves Resting k = subst (Within (λ (q : ℕ). q ≡ N)) there (k.within id v at)
    leaves (Waiting entered) k = ⊎_elim (λ (e : p ≡ N). inl e) (λ (e : p ≡ k.old). inr (ap (λ (z : ℕ). z + 1) e ∙ k.old_is)) (subst (Within (λ (q : ℕ). (q ≡ N) ⊎ (q ≡ k.old))) there (k.within id v at))
    leaves (Draining next taken) k = subst (Within (λ (q : ℕ). q ≡ N)) there (k.within id v at)

    stage_exit : (k : CollectAt) → Leaves k → StageIsGood s k → StageIsGood (after_exit s id v p) k
    stage_exit Resting e k = record {
      within = within_exit (λ q. q ≡ N) k.within;
      clear = k.clear;
      no_exits = subst (λ (z : ℕ). exits_at (one_more s.exits z) (N + 1) ≡ 0) (sym e) (exits_next s.exits N ∙ k.no_exits);
    }
    stage_exit (Waiting entered) e k = let o = k.old in record {
      old = o;
      old_is = k.old_is;
      within = within_exit (λ q. (q ≡ N) ⊎ (q ≡ o)) k.within;
      entered_is = ⊎_elim (λ (e : p ≡ N). let m : p ≢ o = λ h. let i = k.old_is in omega arith in
          k.entered_is ∙ (λ i. sym (subst (λ (z : ℕ). exits_at (one_more s.exits z) o ≡ exits_at s.exits o) (k.old_is ∙ sym e) (exits_last s.exits o)) i + sym (inside_else o m) i))
          (λ (e : p + 1 ≡ N). let same : p ≡ o = let i = k.old_is in omega arith in let a = k.entered_is in let b = inside_exit in let d = exits_here s.exits p in
          subst (λ (z : ℕ). entered ≡ exits_at (one_more s.exits p) z + insiders z (set s.hooks id x)) same (let a' : entered ≡ exits_at s.exits p + insiders p s.hooks = subst (λ (z : ℕ). entered ≡ exits_at s.exits z + insiders z s.hooks) (sym same) a in omega arith)) e;
      entered_most = let a = made_exit in let b = k.entered_most in omega arith;
      rows = rows_under s.rows o (side s.rows s.words o) s.hooks (set s.hooks id x) (stand_exit o) (tally_exit o) k.rows;
    }
    stage_exit (Draining next taken) e k = let o = k.old in let i = k.old_is in record {
      old = o;
      old_is = i;
      within = within_exit (λ q. q ≡ N) k.within;
      entered_most = let a = made_exit in let b = k.entered_most in let c = subst (λ (z : ℕ). exits_at (one_more s.exits z) o ≡ exits_at s.exits o) (i ∙ sym e) (exits_last s.exits o) in omega arith;
      next_most = k.next_most;
      long = k.long;
      emptied = k.emptied;
      rows = subst (RowsAreGood s.rows (taken ++ drop next (side s.rows s.words o)) (λ _. 0)) (sym (tally_exit o)) k.rows;
    }

    Same : Type 0
    Same = exits_at (one_more s.exits p) N + insiders N (set s.hooks id x) ≡ exits_at s.exits N + insiders N s.hooks

    same_here : p ≡ N → Same
    unfolding Same
    same_here e = subst (λ (z : ℕ). exits_at (one_more s.exits p) z + insiders z (set s.hooks id x) ≡ exits_at s.exits z + insiders z s.hooks) e (let a = inside_exit in let b = exits_here s.exits p in omega arith)

    same_last : p + 1 ≡ N → Same
    unfolding Same
    same_last e = let m : p ≢ N = λ h. omega arith in λ i. subst (λ (z : ℕ). exits_at (one_more s.exits p) z ≡ exits_at s.exits z) e (exits_next s.exits p) i + inside_else N m i

    count_exit : (k : CollectAt) → Leaves k → Same
    count_exit Resting e = same_here e
    count_exit (Waiting entered) e = ⊎_elim same_here same_last e
    count_exit (Draining next taken) e = same_here e

    used_exit : (k : CollectAt) → Leaves k → StageIsGood s k → exits_at s.exits p + insiders p s.hooks ≤ made_sum s.hooks
    used_exit Resting e k = subst (λ (z : ℕ). exits_at s.exits z + insiders z s.hooks ≤ made_sum s.hooks) (sym e) g.entries
    used_exit (Waiting entered) e k = ⊎_elim (λ (e : p ≡ N). subst (λ (z : ℕ). exits_at s.exits z + insiders z s.hooks ≤ made_sum s.hooks) (sym e) g.entries)
        (λ (e : p + 1 ≡ N). let i = k.old_is in let same : k.old ≡ p = omega arith in subst (λ (z : ℕ). exits_at s.exits z + insiders z s.hooks ≤ made_sum s.hooks) same (subst (λ (z : ℕ). z ≤ made_sum s.hooks) k.entered_is k.entered_most)) e
    used_exit (Draining next taken) e k = subst (λ (z : ℕ). exits_at s.exits z + insiders z s.hooks ≤ made_sum s.hooks) (sym e) g.entries

    pub room_exit : exits_at s.exits p + 1 ≤ made_sum s.hooks
    room_exit = let a = used_exit s.collector.at (leaves s.collector.at g.stage) g.stage in let b = inside_exit in omega arith

    pub keeps_exit : IsGood (after_exit s id v p)
    keeps_exit = let l = leaves s.collector.at g.stage in let a : exits_at (one_more s.exits p) N + insiders N (set s.hooks id x) ≡ exits_at s.exits N + insiders N s.hooks = unfold Same in count_exit s.collector.at l in let b = made_exit in record {
      size = g.size;
      shared = share_exit ∙ g.shared;
      choice_is = g.choice_is ∙ ap (λ (z : ℕ). N * 4294967296 + z) (sym a);
      phases = g.phases;
      entries = let c = g.entries in omega arith;
      each_view = each_set (ViewIsGood s.rows N (side s.rows s.words)) (ViewIsGood s.rows N (side s.rows s.words)) s.hooks id x g.each_view view_exit (λ y h. h);
      rows_now = rows_under s.rows N (side s.rows s.words N) s.hooks (set s.hooks id x) (stand_exit N) (tally_exit N) g.rows_now;
      stage = stage_exit s.collector.at l g.stage;
      count = g.count;
      snaps = λ n q e. let k = g.snaps n q e in (k.0, subst (SnapshotIsGood s.rows q.rows) (sym (tally_exit n)) k.1);
    }
