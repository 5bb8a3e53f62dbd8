-- The events that deal with views outside: they change no sum.
use Rattle.std.proofs.Common.{◌≡◌, ◌≢◌, ◌⊎◌, ℕ, ◌+◌, ◌-◌, ◌*◌, ◌≤◌, List, [], ◌∷◌, ◌++◌, length, drop, set, sym, refl, ap, ◌∙◌, subst, arith, length-append}
use Rattle.std.specs.Prelude.{Some, slice_get, sum_by}
use Rattle.grace_core.proofs.Items.{some-ne-none, set_else, each_set, each_snoc, each_append, sum_at, sum_same}
use Rattle.std.proofs.lemmas.List.Sums.{sum_by_push, sum_by-append}
use Rattle.acct_base.specs.declared.charge.Charge.{Charge}
use Rattle.grace_core.specs.declared.view.HookView.{HookView}
use Rattle.grace_core.specs.declared.state.State.{State}
use Rattle.grace_core.specs.declared.view.At.{At}
use Rattle.grace_core.specs.declared.view.At.TheVariants.{Outside}
use Rattle.grace_core.specs.declared.state.CollectAt.{CollectAt}
use Rattle.grace_core.specs.declared.state.CollectAt.TheVariants.{Resting, Waiting, Draining}
use Rattle.grace_core.specs.Machine.{IsValidJob, exits_at, moved, split_left, split_right, joined, gone}
use Rattle.grace_core.specs.Sums.{Within, weight, measure, stand, tally, inside, insiders, share, shares, makes, made_sum}
use Rattle.grace_core.specs.Rows.{RowsAreGood}
use Rattle.grace_core.specs.Good.{SnapshotIsGood, side, Standing, ViewIsGood, EachView, StageIsGood, IsGood}
use Rattle.grace_core.proofs.Quiet.{rows_under}

abbrev pub with_hooks : State → List HookView → State
with_hooks s hooks = record s { hooks = hooks }

-- views that add up to the same
pub record Alike (rows : ℕ) (vs us : List HookView) : Type 0 where
  pub stands : (n : ℕ) → stand rows n us ≡ stand rows n vs
  pub tallies : (n : ℕ) → tally n us ≡ tally n vs
  pub inside : (n : ℕ) → insiders n us ≡ insiders n vs
  pub shared : shares us ≡ shares vs
  pub made : made_sum us ≡ made_sum vs

module _ (s : State) (g : IsGood s) (us : List HookView) (a : Alike s.rows s.hooks us) (each : EachView us (ViewIsGood s.rows s.collector.phase (side s.rows s.words)))
    (within : (P : ℕ → Type 0) → EachView s.hooks (λ v. Within P v.at) → EachView us (λ v. Within P v.at)) where
  stage_alike : (k : CollectAt) → StageIsGood s k → StageIsGood (with_hooks s us) k
  stage_alike Resting k = record { within = within (λ p. p ≡ s.collector.phase) k.within; clear = k.clear; no_exits = k.no_exits }
  stage_alike (Waiting entered) k = record {
    old = k.old;
    old_is = k.old_is;
    within = within (λ p. (p ≡ s.collector.phase) ⊎ (p ≡ k.old)) k.within;
    entered_is = k.entered_is ∙ ap (λ (z : ℕ). exits_at s.exits k.old + z) (sym (a.inside k.old));
    entered_most = let b = a.made in let c = k.entered_most in omega arith;
    rows = rows_under s.rows k.old (side s.rows s.words k.old) s.hooks us (a.stands k.old) (a.tallies k.old) k.rows;
  }
  stage_alike (Draining next taken) k = record {
    old = k.old;
    old_is = k.old_is;
    within = within (λ p. p ≡ s.collector.phase) k.within;
    entered_most = let b = a.made in let c = k.entered_most in omega arith;
    next_most = k.next_most;
    long = k.long;
    emptied = k.emptied;
    rows = subst (RowsAreGood s.rows (taken ++ drop next (side s.rows s.words k.old)) (λ _. 0)) (sym (a.tallies k.old)) k.rows;
  }

  pub keeps_alike : IsGood (with_hooks s us)
  keeps_alike = let i = a.inside s.collector.phase in record {
    size = g.size;
    shared = a.shared ∙ g.shared;
    choice_is = g.choice_is ∙ ap (λ (z : ℕ). s.collector.phase * 4294967296 + (exits_at s.exits s.collector.phase + z)) (sym i);
    phases = g.phases;
    entries = let e = g.entries in let m = a.made in omega arith;
    each_view = each;
    rows_now = rows_under s.rows s.collector.phase (side s.rows s.words s.collector.phase) s.hooks us (a.stands s.collector.phase) (a.tallies s.collector.phase) g.rows_now;
    stage = stage_alike s.collector.at g.stage;
    count = g.count;
    snaps = λ n q e. let k = g.snaps n q e in (k.0, subst (SnapshotIsGood s.rows q.rows) (sym (a.tallies n)) k.1);
  }

-- a sum over the views after a split
split_sum : (f : HookView → ℕ) (vs : List HookView) (id : ℕ) (v w x : HookView) → slice_get vs id ≡ Some v → f w + f x ≡ f v → sum_by f (set vs id w ++ x ∷ []) ≡ sum_by f vs
split_sum f vs id v w x at e = let a = sum_by_push f (set vs id w) x in let b = sum_at f vs id v w at in omega arith

module _ (s : State) (g : IsGood s) (id : ℕ) (v : HookView) (at : slice_get s.hooks id ≡ Some v) (out : v.at ≡ Outside) where
  count : length v.list ≤ 2 * v.made
  count = subst (Standing s.rows (side s.rows s.words) v.phase v.made (length v.list)) out (g.each_view id v at).standing

  live : (f : At → ℕ) → f v.at ≡ f Outside
  live f = ap f out

  module _ (n : ℕ) (fits : n ≤ v.left) where
    abbrev after_split : List HookView
    after_split = set s.hooks id (split_left n v) ++ split_right n v ∷ []

    pub keeps_split : IsGood (with_hooks s (set s.hooks id (split_left n v) ++ split_right n v ∷ []))
    keeps_split = let c = count in let ok = g.each_view id v at in let w : HookView = split_left n v in let x : HookView = split_right n v in keeps_alike s g after_split record {
      stands = λ m. λ i q. split_sum (λ (y : HookView). weight s.rows m y.at q) s.hooks id v w x at (let z : weight s.rows m v.at q + 0 ≡ weight s.rows m v.at q = omega arith in z) i;
      tallies = λ m. λ i q. split_sum (λ (y : HookView). sum_by (measure m q) y.list) s.hooks id v w x at (let z : sum_by (measure m q) v.list + 0 ≡ sum_by (measure m q) v.list = omega arith in z) i;
      inside = λ m. split_sum (λ (y : HookView). inside m y.at) s.hooks id v w x at (let z : inside m v.at + 0 ≡ inside m v.at = omega arith in z);
      shared = split_sum share s.hooks id v w x at (let a : share w ≡ (v.left - n) + v.made = ap (λ (a : At). share (moved w a)) out in let b : share v ≡ v.left + v.made = ap (λ (a : At). share (moved v a)) out in omega arith);
      made = split_sum makes s.hooks id v w x at (let z : makes v + 0 ≡ makes v = omega arith in z);
    } (each_snoc (ViewIsGood s.rows s.collector.phase (side s.rows s.words)) (ViewIsGood s.rows s.collector.phase (side s.rows s.words)) (set s.hooks id w) x
        (each_set (ViewIsGood s.rows s.collector.phase (side s.rows s.words)) (ViewIsGood s.rows s.collector.phase (side s.rows s.words)) s.hooks id w g.each_view record { phase = ok.phase; standing = ok.standing; called = ok.called; jobs = ok.jobs } (λ y z. z))
        record { phase = ok.phase; standing = omega arith; called = tt; jobs = λ k c e. absurd (some-ne-none c (sym e)) } (λ y z. z))
        (λ P k. each_snoc (λ (y : HookView). Within P y.at) (λ (y : HookView). Within P y.at) (set s.hooks id w) x (each_set (λ (y : HookView). Within P y.at) (λ (y : HookView). Within P y.at) s.hooks id w k (k id v at) (λ y z. z)) tt (λ y z. z))

  module _ (other : ℕ) (u : HookView) (ne : other ≢ id) (at' : slice_get s.hooks other ≡ Some u) (out' : u.at ≡ Outside) where
    abbrev both : HookView
    both = joined v u

    abbrev after_join : List HookView
    after_join = set (set s.hooks id both) other gone

    still : slice_get (set s.hooks id both) other ≡ Some u
    still = set_else s.hooks id other both ne ∙ at'

    join_sum : (f : HookView → ℕ) → f both + f gone ≡ f v + f u → sum_by f (set (set s.hooks id both) other gone) ≡ sum_by f s.hooks
    join_sum f e = let a = sum_at f s.hooks id v both at in let b = sum_at f (set s.hooks id both) other u gone still in omega arith

    pub keeps_join : IsGood (with_hooks s (set (set s.hooks id (joined v u)) other gone))
    keeps_join = let c = count in let d = subst (Standing s.rows (side s.rows s.words) u.phase u.made (length u.list)) out' (g.each_view other u at').standing in let ok = g.each_view id v at in let ok' = g.each_view other u at' in
        let long = length-append v.list u.list in let fits = ok.phase in let fits' = ok'.phase in keeps_alike s g after_join record {
          stands = λ m. λ i q. join_sum (λ (y : HookView). weight s.rows m y.at q) (λ i. sym (ap (λ (a : At). weight s.rows m a q) out) i + sym (ap (λ (a : At). weight s.rows m a q) out') i) i;
          tallies = λ m. λ i q. join_sum (λ (y : HookView). sum_by (measure m q) y.list) (let e = sum_by-append (measure m q) v.list u.list in omega arith) i;
          inside = λ m. join_sum (λ (y : HookView). inside m y.at) (λ i. sym (ap (inside m) out) i + sym (ap (inside m) out') i);
          shared = join_sum share (let a : share v ≡ v.left + v.made = ap (λ (a : At). share (moved v a)) out in let b : share u ≡ u.left + u.made = ap (λ (a : At). share (moved u a)) out' in omega arith);
          made = join_sum makes (let a : makes v ≡ v.made = ap (λ (a : At). makes (moved v a)) out in let b : makes u ≡ u.made = ap (λ (a : At). makes (moved u a)) out' in omega arith);
        } (each_set (ViewIsGood s.rows s.collector.phase (side s.rows s.words)) (ViewIsGood s.rows s.collector.phase (side s.rows s.words)) (set s.hooks id both) other gone
        (each_set (ViewIsGood s.rows s.collector.phase (side s.rows s.words)) (ViewIsGood s.rows s.collector.phase (side s.rows s.words)) s.hooks id both g.each_view
        record { phase = omega arith; standing = omega arith; called = tt; jobs = each_append (λ (y : Charge). IsValidJob y.job × (y.phase ≤ s.collector.phase)) v.list u.list ok.jobs ok'.jobs } (λ y z. z))
        record { phase = omega arith; standing = refl; called = tt; jobs = λ k c e. absurd (some-ne-none c (sym e)) } (λ y z. z))
        (λ P k. each_set (λ (y : HookView). Within P y.at) (λ (y : HookView). Within P y.at) (set s.hooks id both) other gone (each_set (λ (y : HookView). Within P y.at) (λ (y : HookView). Within P y.at) s.hooks id both k tt (λ y z. z)) tt (λ y z. z))

-- a view with no calls and no charges
abbrev pub note : ℕ → HookView
note p = record { left = 0; made = 0; phase = p; at = Outside; list = [] }

-- a note of any phase that has come may be given out
pub keeps_note : (s : State) (g : IsGood s) (p : ℕ) → p ≤ s.collector.phase → IsGood (with_hooks s (s.hooks ++ note p ∷ []))
keeps_note s g p le = let same : (f : HookView → ℕ) → f (note p) ≡ 0 → sum_by f (s.hooks ++ note p ∷ []) ≡ sum_by f s.hooks = λ f z. sum_by_push f s.hooks (note p) ∙ (let q : sum_by f s.hooks + f (note p) ≡ sum_by f s.hooks = omega arith in q) in
    keeps_alike s g (s.hooks ++ note p ∷ []) record {
      stands = λ m. λ i q. same (λ (y : HookView). weight s.rows m y.at q) refl i;
      tallies = λ m. λ i q. same (λ (y : HookView). sum_by (measure m q) y.list) refl i;
      inside = λ m. same (λ (y : HookView). inside m y.at) refl;
      shared = same share refl;
      made = same makes refl;
    } (each_snoc (ViewIsGood s.rows s.collector.phase (side s.rows s.words)) (ViewIsGood s.rows s.collector.phase (side s.rows s.words)) s.hooks (note p) g.each_view record { phase = le; standing = omega arith; called = tt; jobs = λ k c e. absurd (some-ne-none c (sym e)) } (λ y z. z))
    (λ P k. each_snoc (λ (y : HookView). Within P y.at) (λ (y : HookView). Within P y.at) s.hooks (note p) k tt (λ y z. z))

-- the phase of a view outside may be raised to any phase that has come
abbrev pub raised : ℕ → HookView → HookView
raised p v = record { left = v.left; made = v.made; phase = p; at = v.at; list = v.list }

pub keeps_raise : (s : State) (g : IsGood s) (id p : ℕ) (v : HookView) → slice_get s.hooks id ≡ Some v → v.at ≡ Outside → p ≤ s.collector.phase → IsGood (with_hooks s (set s.hooks id (raised p v)))
keeps_raise s g id p v at out le = let ok = g.each_view id v at in keeps_alike s g (set s.hooks id (raised p v)) record {
  stands = λ m. λ i q. sum_same (λ (y : HookView). weight s.rows m y.at q) s.hooks id v (raised p v) at refl i;
  tallies = λ m. λ i q. sum_same (λ (y : HookView). sum_by (measure m q) y.list) s.hooks id v (raised p v) at refl i;
  inside = λ m. sum_same (λ (y : HookView). inside m y.at) s.hooks id v (raised p v) at refl;
  shared = sum_same share s.hooks id v (raised p v) at refl;
  made = sum_same makes s.hooks id v (raised p v) at refl;
} (each_set (ViewIsGood s.rows s.collector.phase (side s.rows s.words)) (ViewIsGood s.rows s.collector.phase (side s.rows s.words)) s.hooks id (raised p v) g.each_view
    record { phase = le; standing = subst (λ (a : At). Standing s.rows (side s.rows s.words) p v.made (length v.list) a) (sym out) (subst (λ (a : At). Standing s.rows (side s.rows s.words) v.phase v.made (length v.list) a) out ok.standing); called = ok.called; jobs = ok.jobs } (λ y z. z))
    (λ P k. each_set (λ (y : HookView). Within P y.at) (λ (y : HookView). Within P y.at) s.hooks id (raised p v) k (k id v at) (λ y z. z))
