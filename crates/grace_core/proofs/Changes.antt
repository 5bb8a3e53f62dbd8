-- A step of one view that is inside a phase, on the words of that phase.
use Rattle.std.proofs.Common.{◌≡◌, ◌≢◌, ◌⊎◌, ℕ, ◌+◌, ◌*◌, ◌%◌, ◌<◌, List, ◌++◌, length, get_or, drop, set, sym, ap, ◌∙◌, subst, inl, inr, ⊎_elim, arith}
use mathlib.Core.Logic.{dite}
use native.Mathlib.Decide.{ℕ_discrete}
use Rattle.std.specs.Prelude.{Some, slice_get, sum_by}
use Rattle.grace_core.specs.declared.view.HookView.{HookView}
use Rattle.grace_core.specs.declared.state.State.{State}
use Rattle.grace_core.specs.declared.view.At.{At}
use Rattle.grace_core.specs.declared.view.At.TheVariants.{Outside, Inside, First, Second, Adding, Gone}
use Rattle.grace_core.specs.declared.state.CollectAt.{CollectAt}
use Rattle.grace_core.specs.declared.state.CollectAt.TheVariants.{Resting, Waiting, Draining}
use Rattle.grace_core.specs.Sums.{Measure, Within, measure, stand, tally, inside, insiders, share, shares, makes, made_sum}
use Rattle.row_probe.specs.Places.{place_of}
use Rattle.row_probe.proofs.Packing.{pack1-ne-zero}
use Rattle.grace_core.specs.Rows.{RowsAreGood}
use Rattle.grace_core.specs.Good.{SnapshotIsGood, side, Standing, ViewIsGood, EachView, drained, StageIsGood, IsGood}
use Rattle.grace_core.specs.Machine.{exits_at}
use Rattle.grace_core.specs.Phases.{IsUsed}
use Rattle.grace_core.proofs.Items.{each_set, at_below, sum_same}
use Rattle.grace_core.proofs.Sums.{stand_same, tally_same}
use Rattle.grace_core.proofs.Sides.{side_alike}
use Rattle.grace_core.proofs.RowSteps.{Grows, grows_same, tried_grows, has_grows}
use Rattle.grace_core.proofs.Within.{In, inside_in, within_in, in_within, live_in, weight_in}
use Rattle.grace_core.proofs.Quiet.{rows_under}

standing_grows : (rows : ℕ) (ws us : ℕ → List ℕ) → ((q : ℕ) → Grows (ws q) (us q)) → (ph m n : ℕ) (a : At) → Standing rows ws ph m n a → Standing rows us ph m n a
standing_grows rows ws us g ph m n Outside k = k
standing_grows rows ws us g ph m n (Inside p c) k = k
standing_grows rows ws us g ph m n (First p c j t) k = (k.0, k.1, k.2, k.3, k.4, tried_grows rows (ws p) (us p) (g p) j.label t k.5)
standing_grows rows ws us g ph m n (Second p c j t) k = (k.0, k.1, k.2, k.3, k.4, tried_grows rows (ws p) (us p) (g p) j.label t k.5, (g p).first (place_of j.label t rows) (λ e. pack1-ne-zero j.label (sym k.6 ∙ e)) ∙ k.6)
standing_grows rows ws us g ph m n (Adding p c j r d) k = (k.0, k.1, k.2, k.3, k.4, has_grows (ws p) (us p) (g p) j.label r k.3.label k.5)
standing_grows rows ws us g ph m n Gone k = k

view_grows : (rows n : ℕ) (ws us : ℕ → List ℕ) → ((q : ℕ) → Grows (ws q) (us q)) → (v : HookView) → ViewIsGood rows n ws v → ViewIsGood rows n us v
view_grows rows n ws us g v k = record { phase = k.phase; standing = standing_grows rows ws us g v.phase v.made (length v.list) v.at k.standing; called = k.called; jobs = k.jobs }

pub in_use : (s : State) (g : IsGood s) (id p : ℕ) (v : HookView) → slice_get s.hooks id ≡ Some v → In p v.at → (k : CollectAt) → StageIsGood s k → IsUsed p s.collector.phase k
in_use s g id p v at there Resting k = in_within (λ q. q ≡ s.collector.phase) p v.at there (k.within id v at)
in_use s g id p v at there (Waiting entered) k = ⊎_elim (λ (e : p ≡ s.collector.phase). inl e) (λ (e : p ≡ k.old). inr (ap (λ (z : ℕ). z + 1) e ∙ k.old_is))
    (in_within (λ q. (q ≡ s.collector.phase) ⊎ (q ≡ k.old)) p v.at there (k.within id v at))
in_use s g id p v at there (Draining next taken) k = in_within (λ q. q ≡ s.collector.phase) p v.at there (k.within id v at)

-- the rows of the phase that the view is inside
pub rows_of : (s : State) (g : IsGood s) (p : ℕ) (k : CollectAt) → StageIsGood s k → IsUsed p s.collector.phase k → RowsAreGood s.rows (side s.rows s.words p) (stand s.rows p s.hooks) (tally p s.hooks)
rows_of s g p Resting k e = subst (λ (z : ℕ). RowsAreGood s.rows (side s.rows s.words z) (stand s.rows z s.hooks) (tally z s.hooks)) (sym e) g.rows_now
rows_of s g p (Waiting entered) k e = ⊎_elim (λ (e : p ≡ s.collector.phase). subst (λ (z : ℕ). RowsAreGood s.rows (side s.rows s.words z) (stand s.rows z s.hooks) (tally z s.hooks)) (sym e) g.rows_now)
    (λ (e : p + 1 ≡ s.collector.phase). let i = k.old_is in let same : k.old ≡ p = omega arith in subst (λ (z : ℕ). RowsAreGood s.rows (side s.rows s.words z) (stand s.rows z s.hooks) (tally z s.hooks)) same k.rows) e
rows_of s g p (Draining next taken) k e = subst (λ (z : ℕ). RowsAreGood s.rows (side s.rows s.words z) (stand s.rows z s.hooks) (tally z s.hooks)) (sym e) g.rows_now

pub record Change (s : State) (id p : ℕ) (v w : HookView) (us : List ℕ) : Type 0 where
  pub was : In p v.at
  pub now : In p w.at
  pub left : w.left ≡ v.left
  pub made : w.made ≡ v.made
  pub phase : w.phase ≡ v.phase
  pub list : (q : ℕ) (m : Measure) → p ≢ q → sum_by (measure q m) w.list ≡ sum_by (measure q m) v.list
  pub wide : length us ≡ length s.words
  pub other_side : (q : ℕ) → q % 2 ≢ p % 2 → side s.rows us q ≡ side s.rows s.words q
  pub grows : Grows (side s.rows s.words p) (side s.rows us p)
  pub view : ViewIsGood s.rows s.collector.phase (side s.rows us) w
  pub rows : RowsAreGood s.rows (side s.rows us p) (stand s.rows p (set s.hooks id w)) (tally p (set s.hooks id w))

abbrev pub after_change : State → ℕ → HookView → List ℕ → State
after_change s id w us = record s { words = us; hooks = set s.hooks id w }

module _ (s : State) (g : IsGood s) (id p : ℕ) (v w : HookView) (us : List ℕ) (at : slice_get s.hooks id ≡ Some v) (c : Change s id p v w us) where
  N : ℕ
  N = s.collector.phase

  hooks : List HookView
  hooks = set s.hooks id w

  insiders_change : (n : ℕ) → insiders n (set s.hooks id w) ≡ insiders n s.hooks
  insiders_change n = sum_same (λ (x : HookView). inside n x.at) s.hooks id v w at (inside_in n p w.at c.now ∙ sym (inside_in n p v.at c.was))

  made_change : made_sum (set s.hooks id w) ≡ made_sum s.hooks
  made_change = sum_same makes s.hooks id v w at (live_in w.made p w.at c.now ∙ (c.made ∙ sym (live_in v.made p v.at c.was)))

  share_change : shares (set s.hooks id w) ≡ shares s.hooks
  share_change = sum_same share s.hooks id v w at (live_in (w.left + w.made) p w.at c.now ∙ ((λ i. c.left i + c.made i) ∙ sym (live_in (v.left + v.made) p v.at c.was)))

  rows_else : (q : ℕ) → p ≢ q → q % 2 ≢ p % 2 → RowsAreGood s.rows (side s.rows s.words q) (stand s.rows q s.hooks) (tally q s.hooks) → RowsAreGood s.rows (side s.rows us q) (stand s.rows q (set s.hooks id w)) (tally q (set s.hooks id w))
  rows_else q ne par k = subst (λ (ws : List ℕ). RowsAreGood s.rows ws (stand s.rows q (set s.hooks id w)) (tally q (set s.hooks id w))) (sym (c.other_side q par))
      (rows_under s.rows q (side s.rows s.words q) s.hooks (set s.hooks id w) (stand_same s.rows q s.hooks id v w at (λ pr. weight_in s.rows q p w.at pr c.now ne ∙ sym (weight_in s.rows q p v.at pr c.was ne)))
      (tally_same q s.hooks id v w at (λ m. c.list q m ne)) k)

  tally_else : (q : ℕ) → p ≢ q → tally q (set s.hooks id w) ≡ tally q s.hooks
  tally_else q ne = tally_same q s.hooks id v w at (λ m. c.list q m ne)

  within_change : (P : ℕ → Type 0) → P p → EachView s.hooks (λ (y : HookView). Within P y.at) → EachView (set s.hooks id w) (λ (y : HookView). Within P y.at)
  within_change P h k = each_set (λ (y : HookView). Within P y.at) (λ (y : HookView). Within P y.at) s.hooks id w k (within_in P p w.at c.now h) (λ y z. z)

  side_grows : (q : ℕ) → Grows (side s.rows s.words q) (side s.rows us q)
  side_grows q = dite (ℕ_discrete (q % 2) (p % 2)) (λ e. subst (λ (z : List ℕ × List ℕ). Grows z.0 z.1) (λ i. (sym (side_alike s.rows s.words p q e) i, sym (side_alike s.rows us p q e) i)) c.grows)
      (λ ne. grows_same (side s.rows s.words q) (side s.rows us q) (c.other_side q ne))

  rows_at : (q : ℕ) → p ≡ q → RowsAreGood s.rows (side s.rows us q) (stand s.rows q (set s.hooks id w)) (tally q (set s.hooks id w))
  rows_at q e = subst (λ (z : ℕ). RowsAreGood s.rows (side s.rows us z) (stand s.rows z (set s.hooks id w)) (tally z (set s.hooks id w))) e c.rows

  stage_change : (k : CollectAt) → IsUsed p s.collector.phase k → StageIsGood s k → StageIsGood (after_change s id w us) k
  stage_change Resting e k = record {
    within = within_change (λ q. q ≡ s.collector.phase) e k.within;
    clear = λ i. ap (λ (ws : List ℕ). get_or ws i 0) (c.other_side (s.collector.phase + 1) (λ h. omega arith)) ∙ k.clear i;
    no_exits = k.no_exits;
  }
  stage_change (Waiting entered) e k = let o = k.old in let io = k.old_is in record {
    old = o;
    old_is = k.old_is;
    within = within_change (λ q. (q ≡ s.collector.phase) ⊎ (q ≡ o)) (⊎_elim (λ (h : p ≡ s.collector.phase). inl h) (λ (h : p + 1 ≡ s.collector.phase). inr (omega arith)) e) k.within;
    entered_is = k.entered_is ∙ ap (λ (z : ℕ). exits_at s.exits o + z) (sym (insiders_change o));
    entered_most = let a = made_change in let b = k.entered_most in omega arith;
    rows = ⊎_elim (λ (h : p ≡ s.collector.phase). rows_else o (λ z. omega arith) (λ z. omega arith) k.rows) (λ (h : p + 1 ≡ s.collector.phase). rows_at o (omega arith)) e;
  }
  stage_change (Draining next taken) e k = let o = k.old in let i = k.old_is in let side_same = c.other_side o (λ z. omega arith) in record {
    old = o;
    old_is = i;
    within = within_change (λ q. q ≡ s.collector.phase) e k.within;
    entered_most = let a = made_change in let b = k.entered_most in omega arith;
    next_most = k.next_most;
    long = k.long;
    emptied = λ j l. ap (λ (ws : List ℕ). get_or ws j 0) side_same ∙ k.emptied j l;
    rows = subst (λ (z : List ℕ × (Measure → ℕ)). RowsAreGood s.rows (taken ++ drop next z.0) (λ _. 0) z.1) (λ q. (sym side_same q, sym (tally_else o (λ z. omega arith)) q)) k.rows;
  }

  not_drained : (k : CollectAt) → IsUsed p s.collector.phase k → (n : ℕ) → n < drained k s.collector.phase → p ≢ n
  not_drained Resting e n l h = omega arith
  not_drained (Waiting entered) e n l h = ⊎_elim (λ (z : p ≡ s.collector.phase). omega arith) (λ (z : p + 1 ≡ s.collector.phase). omega arith) e
  not_drained (Draining next taken) e n l h = omega arith

  now_change : (k : CollectAt) → IsUsed p s.collector.phase k → RowsAreGood s.rows (side s.rows us s.collector.phase) (stand s.rows s.collector.phase (set s.hooks id w)) (tally s.collector.phase (set s.hooks id w))
  now_change Resting e = rows_at s.collector.phase e
  now_change (Waiting entered) e = ⊎_elim (λ (h : p ≡ s.collector.phase). rows_at s.collector.phase h) (λ (h : p + 1 ≡ s.collector.phase). rows_else s.collector.phase (λ z. omega arith) (λ z. omega arith) g.rows_now) e
  now_change (Draining next taken) e = rows_at s.collector.phase e

  pub keeps_change : IsGood (after_change s id w us)
  keeps_change = let u = in_use s g id p v at c.was s.collector.at g.stage in let a = insiders_change s.collector.phase in let b = made_change in record {
    size = (g.size.0, g.size.1, c.wide ∙ g.size.2, g.size.3);
    shared = share_change ∙ g.shared;
    choice_is = g.choice_is ∙ ap (λ (z : ℕ). s.collector.phase * 4294967296 + (exits_at s.exits s.collector.phase + z)) (sym a);
    phases = g.phases;
    entries = let e = g.entries in omega arith;
    each_view = each_set (ViewIsGood s.rows s.collector.phase (side s.rows s.words)) (ViewIsGood s.rows s.collector.phase (side s.rows us)) s.hooks id w g.each_view c.view
        (view_grows s.rows s.collector.phase (side s.rows s.words) (side s.rows us) side_grows);
    rows_now = now_change s.collector.at u;
    stage = stage_change s.collector.at u g.stage;
    count = g.count;
    snaps = λ n q e. let k = g.snaps n q e in let lt = at_below s.snapshots n q e in let total = g.count in (k.0, subst (SnapshotIsGood s.rows q.rows) (sym (tally_else n (not_drained s.collector.at u n (let z : n < drained s.collector.at s.collector.phase = omega arith in z)))) k.1);
  }
