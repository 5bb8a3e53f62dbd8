-- The collector's events keep a good state.
use Rattle.std.proofs.Common.{◌≡◌, ◌≢◌, ◌⊎◌, ℕ, suc, ◌+◌, ◌-◌, ◌*◌, ◌%◌, ◌<◌, ◌≤◌, eqb, List, [], ◌∷◌, ◌++◌, length, get_or, drop, set, sym, refl, ap, ◌∙◌, subst, inl, inr, ⊎_elim, arith, length-set, length-append, get_or-set_same, get_or-set_other, append-nil}
use mathlib.Core.Logic.{dite}
use native.Mathlib.Decide.{ℕ_discrete, dec_le}
use Rattle.std.specs.Prelude.{Some, slice_get, sum_by}
use Rattle.acct_base.specs.declared.charge.Charge.{Charge}
use Rattle.grace_core.specs.declared.view.HookView.{HookView}
use Rattle.grace_core.specs.declared.state.State.{State}
use Rattle.grace_core.specs.declared.view.At.{At}
use Rattle.grace_core.specs.declared.view.At.TheVariants.{Outside, Inside, First, Second, Adding, Gone}
use Rattle.grace_core.specs.declared.state.CollectAt.{CollectAt}
use Rattle.grace_core.specs.declared.state.CollectAt.TheVariants.{Resting, Waiting, Draining}
use Rattle.row_probe.specs.Places.{place_of}
use Rattle.grace_core.specs.Sums.{Probe, Measure, landed, missed, Within, weight, measure, stand, tally, inside, insiders, made_sum}
use Rattle.acct_base.specs.declared.amount.Row.{Row}
use Rattle.acct_base.specs.declared.amount.Snapshot.{Snapshot}
use Rattle.grace_core.specs.Rows.{cell, Has, Tried, RowsAreGood}
use Rattle.grace_core.specs.Good.{SnapshotIsGood, side, Standing, ViewIsGood, EachView, RestingIsGood, WaitingIsGood, DrainingIsGood, drained, StageIsGood, IsGood}
use Rattle.std.proofs.lemmas.List.{drop-set-lt, append_assoc}
use lib.Seq.{drop-cons}
use lib.ListN.{drop_of_length-le, get_or-eq_default}
use Rattle.grace_core.proofs.Sides.{side_put, side_keep, side_at, side_alike, exits_reset, exits_keep, exits_alike}
use Rattle.grace_core.specs.Machine.{exits_at, no_more, word_at}
use Rattle.grace_core.proofs.Items.{sum_none, sum_part, at_end}
use Rattle.grace_core.proofs.Beginning.{side_wide, rows_zero}
use Rattle.grace_core.proofs.Bounds.{made_most}
use Rattle.grace_core.proofs.Sums.{flag, one_here, none_else}
use Rattle.grace_core.proofs.Within.{weight_in}
use Rattle.grace_core.proofs.Weights.{measure_else}

abbrev pub after_flip : State → State
after_flip s = record s { choice = (s.collector.phase + 1) * 4294967296; collector = record { phase = s.collector.phase + 1; at = Waiting (s.choice % 4294967296) } }

abbrev pub after_clear : State → State
after_clear s = record s { collector = record { phase = s.collector.phase; at = Draining 0 [] } }

abbrev pub after_take : State → ℕ → ℕ → List ℕ → State
after_take s old next taken = record s { words = set s.words (word_at s.rows old next) 0; collector = record { phase = s.collector.phase; at = Draining (next + 1) (taken ++ get_or s.words (word_at s.rows old next) 0 ∷ []) } }

abbrev pub after_reopen : State → ℕ → List Row → State
after_reopen s old rows = record s { exits = no_more s.exits old; collector = record { phase = s.collector.phase; at = Resting }; snapshots = s.snapshots ++ record { phase = old; rows = rows } ∷ [] }

-- a view that is inside no phase but such as P allows
inside_none : (P : ℕ → Type 0) (n : ℕ) → ((p : ℕ) → P p → p ≢ n) → (a : At) → Within P a → inside n a ≡ 0
inside_none P n bar Outside k = refl
inside_none P n bar (Inside p c) k = none_else p n (bar p k)
inside_none P n bar (First p c j t) k = none_else p n (bar p k)
inside_none P n bar (Second p c j t) k = none_else p n (bar p k)
inside_none P n bar (Adding p c j r d) k = none_else p n (bar p k)
inside_none P n bar Gone k = refl

pub within_map : (P Q : ℕ → Type 0) → ((p : ℕ) → P p → Q p) → (a : At) → Within P a → Within Q a
within_map P Q f Outside k = tt
within_map P Q f (Inside p c) k = f p k
within_map P Q f (First p c j t) k = f p k
within_map P Q f (Second p c j t) k = f p k
within_map P Q f (Adding p c j r d) k = f p k
within_map P Q f Gone k = tt

stays_in : (N old p : ℕ) → flag (eqb p old) ≡ 0 → (p ≡ N) ⊎ (p ≡ old) → p ≡ N
stays_in N old p z (inl e) = e
stays_in N old p z (inr e) = absurd (let o : flag (eqb p old) ≡ 1 = subst (λ (y : ℕ). flag (eqb p y) ≡ 1) e (one_here p) in omega arith)

within_gone : (N old : ℕ) (a : At) → inside old a ≡ 0 → Within (λ p. (p ≡ N) ⊎ (p ≡ old)) a → Within (λ p. p ≡ N) a
within_gone N old Outside z k = tt
within_gone N old (Inside p c) z k = stays_in N old p z k
within_gone N old (First p c j t) z k = stays_in N old p z k
within_gone N old (Second p c j t) z k = stays_in N old p z k
within_gone N old (Adding p c j r d) z k = stays_in N old p z k
within_gone N old Gone z k = tt

weight_none : (rows old N : ℕ) (a : At) (q : Probe) → N ≢ old → Within (λ p. p ≡ N) a → weight rows old a q ≡ 0
weight_none rows old N Outside q ne k = refl
weight_none rows old N (Inside p c) q ne k = weight_in rows old N (Inside p c) q k ne
weight_none rows old N (First p c j t) q ne k = weight_in rows old N (First p c j t) q k ne
weight_none rows old N (Second p c j t) q ne k = weight_in rows old N (Second p c j t) q k ne
weight_none rows old N (Adding p c j r d) q ne k = weight_in rows old N (Adding p c j r d) q k ne
weight_none rows old N Gone q ne k = refl

view_later : (rows n m : ℕ) (ws : ℕ → List ℕ) (v : HookView) → n ≤ m → ViewIsGood rows n ws v → ViewIsGood rows m ws v
view_later rows n m ws v le k = record { phase = let a = k.phase in omega arith; standing = k.standing; called = k.called; jobs = λ i c e. let j = k.jobs i c e in (j.0, let b = j.1 in omega arith) }

-- no charge is of a phase that has not come
measure_later : (n : ℕ) (m : Measure) (c : Charge) → c.phase ≢ n → measure n m c ≡ 0
measure_later n m c ne = measure_else n c.phase m c.job c.landed ne

tally_later : (s : State) (g : IsGood s) (n : ℕ) (m : Measure) → s.collector.phase < n → tally n s.hooks m ≡ 0
tally_later s g n m lt = sum_none (λ (v : HookView). sum_by (measure n m) v.list) s.hooks (λ j v at. sum_none (measure n m) v.list (λ k c e. measure_later n m c (λ h. let b = ((g.each_view j v at).jobs k c e).1 in omega arith)))

pub keeps_flip : (s : State) (g : IsGood s) → s.collector.at ≡ Resting → s.collector.phase < 1024 → IsGood (after_flip s)
keeps_flip s g rests lt = let N : ℕ = s.collector.phase in let k : RestingIsGood s = subst (StageIsGood s) rests g.stage in
    let none_yet : insiders (N + 1) s.hooks ≡ 0 = sum_none (λ (v : HookView). inside (N + 1) v.at) s.hooks (λ j v at. inside_none (λ p. p ≡ N) (N + 1) (λ p e h. omega arith) v.at (k.within j v at)) in
    let most = made_most s g 0 0 0 (record { uid = 0; tag = 0; set = 0; iface = 0 }) in let c = g.choice_is in let e = g.entries in let z = k.no_exits in
    let m : ℕ = exits_at s.exits N + insiders N s.hooks in let is : s.choice % 4294967296 ≡ exits_at s.exits N + insiders N s.hooks = omega arith in record {
      size = g.size;
      shared = g.shared;
      choice_is = omega arith;
      phases = omega arith;
      entries = omega arith;
      each_view = λ j v at. view_later s.rows N (N + 1) (side s.rows s.words) v (omega arith) (g.each_view j v at);
      rows_now = rows_zero s.rows (side s.rows s.words (N + 1)) (stand s.rows (N + 1) s.hooks) (tally (N + 1) s.hooks) (side_wide s.rows s.words (N + 1) g.size.2) k.clear (λ l. (tally_later s g (N + 1) (landed l) (omega arith), tally_later s g (N + 1) (missed l) (omega arith)));
      stage = record {
        old = N;
        old_is = refl;
        within = λ j v at. within_map (λ p. p ≡ N) (λ p. (p ≡ N + 1) ⊎ (p ≡ N)) (λ p h. inr h) v.at (k.within j v at);
        entered_is = is;
        entered_most = omega arith;
        rows = g.rows_now;
      };
      count = g.count ∙ (ap (λ (x : CollectAt). drained x N) rests ∙ (let q : N ≡ (N + 1) - 1 = omega arith in q));
      snaps = g.snaps;
    }

-- no view is inside the old phase any more
pub keeps_clear : (s : State) (g : IsGood s) (entered : ℕ) → s.collector.at ≡ Waiting entered → (old : ℕ) → old + 1 ≡ s.collector.phase → exits_at s.exits old ≡ entered → IsGood (after_clear s)
keeps_clear s g entered waits old old_is left = let N : ℕ = s.collector.phase in let k : WaitingIsGood s entered = subst (StageIsGood s) waits g.stage in let i = k.old_is in let same : k.old ≡ old = omega arith in
    let e : entered ≡ exits_at s.exits old + insiders old s.hooks = subst (λ (z : ℕ). entered ≡ exits_at s.exits z + insiders z s.hooks) same k.entered_is in let nobody : insiders old s.hooks ≡ 0 = omega arith in
    let each : EachView s.hooks (λ v. Within (λ p. p ≡ N) v.at) = λ j v at. let z : inside old v.at ≡ 0 = (let q = sum_part (λ (v : HookView). inside old v.at) s.hooks j v at in omega arith) in
    within_gone N old v.at z (within_map (λ p. (p ≡ N) ⊎ (p ≡ k.old)) (λ p. (p ≡ N) ⊎ (p ≡ old)) (λ p h. ⊎_elim (λ (a : p ≡ N). inl a) (λ (b : p ≡ k.old). inr (b ∙ same)) h) v.at (k.within j v at)) in
    let still : stand s.rows old s.hooks ≡ (λ q. 0) = λ i q. sum_none (λ (v : HookView). weight s.rows old v.at q) s.hooks (λ j v at. weight_none s.rows old N v.at q (λ h. omega arith) (each j v at)) i in record {
      size = g.size;
      shared = g.shared;
      choice_is = g.choice_is;
      phases = g.phases;
      entries = g.entries;
      each_view = g.each_view;
      rows_now = g.rows_now;
      stage = record {
        old = old;
        old_is = old_is;
        within = each;
        entered_most = let m = k.entered_most in omega arith;
        next_most = omega arith;
        long = refl;
        emptied = λ i l. absurd (omega arith);
        rows = subst (λ (z : (Probe → ℕ)). RowsAreGood s.rows (side s.rows s.words old) z (tally old s.hooks)) still (subst (λ (z : ℕ). RowsAreGood s.rows (side s.rows s.words z) (stand s.rows z s.hooks) (tally z s.hooks)) same k.rows);
      };
      count = g.count ∙ ap (λ (x : CollectAt). drained x N) waits;
      snaps = g.snaps;
    }

-- views that are all inside phases whose side stays
standing_on : (rows : ℕ) (ws us : ℕ → List ℕ) (ph m n : ℕ) (a : At) → Within (λ p. us p ≡ ws p) a → Standing rows ws ph m n a → Standing rows us ph m n a
standing_on rows ws us ph m n Outside e k = k
standing_on rows ws us ph m n (Inside p c) e k = k
standing_on rows ws us ph m n (First p c j t) e k = (k.0, k.1, k.2, k.3, k.4, subst (λ (z : List ℕ). Tried rows z j.label t) (sym e) k.5)
standing_on rows ws us ph m n (Second p c j t) e k = (k.0, k.1, k.2, k.3, k.4, subst (λ (z : List ℕ). Tried rows z j.label t) (sym e) k.5, ap (λ (z : List ℕ). cell z (place_of j.label t rows) 0) e ∙ k.6)
standing_on rows ws us ph m n (Adding p c j r d) e k = (k.0, k.1, k.2, k.3, k.4, subst (λ (z : List ℕ). Has z r j.label) (sym e) k.5)
standing_on rows ws us ph m n Gone e k = k

pub keeps_take : (s : State) (g : IsGood s) (next : ℕ) (taken : List ℕ) → s.collector.at ≡ Draining next taken → (old : ℕ) → old + 1 ≡ s.collector.phase → next < 6 * s.rows → IsGood (after_take s old next taken)
keeps_take s g next taken drains old old_is lt = let N : ℕ = s.collector.phase in let k : DrainingIsGood s next taken = subst (StageIsGood s) drains g.stage in let i = k.old_is in let same : k.old ≡ old = omega arith in
    let us : List ℕ = set s.words (word_at s.rows old next) 0 in let keep : side s.rows us N ≡ side s.rows s.words N = side_keep s.rows s.words old N next 0 (λ h. omega arith) lt in
    let l : List ℕ = side s.rows s.words old in let put : side s.rows us old ≡ set l next 0 = side_put s.rows s.words old next 0 lt in let wide : length l ≡ 6 * s.rows = side_wide s.rows s.words old g.size.2 in
    let w : ℕ = get_or s.words (word_at s.rows old next) 0 in let is : get_or l next 0 ≡ w = side_at s.rows s.words old next lt in let long = k.long in
    let whole : (taken ++ w ∷ []) ++ drop (next + 1) (side s.rows us old) ≡ taken ++ drop next l = ap (λ (z : List ℕ). (taken ++ w ∷ []) ++ drop (next + 1) z) put ∙ (ap (λ (z : List ℕ). (taken ++ w ∷ []) ++ z) (drop-set-lt (next + 1) l next 0 (omega arith)) ∙
    (append_assoc taken (w ∷ []) (drop (next + 1) l) ∙ ap (λ (z : List ℕ). taken ++ z) (sym (drop-cons l next 0 (omega arith) ∙ ((λ q. is q ∷ drop (suc next) l) ∙ (let e : suc next ≡ next + 1 = omega arith in ap (λ (z : ℕ). w ∷ drop z l) e)))))) in record {
      size = (g.size.0, g.size.1, length-set s.words (word_at s.rows old next) 0 ∙ g.size.2, g.size.3);
      shared = g.shared;
      choice_is = g.choice_is;
      phases = g.phases;
      entries = g.entries;
      each_view = λ j v at. let ok = g.each_view j v at in record {
        phase = ok.phase;
        standing = standing_on s.rows (side s.rows s.words) (side s.rows us) v.phase v.made (length v.list) v.at (within_map (λ p. p ≡ N) (λ p. side s.rows us p ≡ side s.rows s.words p) (λ p e. subst (λ (z : ℕ). side s.rows us z ≡ side s.rows s.words z) (sym e) keep) v.at (k.within j v at)) ok.standing;
        called = ok.called;
        jobs = ok.jobs;
      };
      rows_now = subst (λ (z : List ℕ). RowsAreGood s.rows z (stand s.rows N s.hooks) (tally N s.hooks)) (sym keep) g.rows_now;
      stage = record {
        old = old;
        old_is = old_is;
        within = k.within;
        entered_most = subst (λ (z : ℕ). exits_at s.exits z ≤ made_sum s.hooks) same k.entered_most;
        next_most = omega arith;
        long = let a = length-append taken (w ∷ []) in omega arith;
        emptied = λ j lj. ap (λ (z : List ℕ). get_or z j 0) put ∙ dite (ℕ_discrete j next) (λ e. ap (λ (z : ℕ). get_or (set l next 0) z 0) e ∙ get_or-set_same l next 0 0 (omega arith))
            (λ ne. get_or-set_other l next j 0 0 ne ∙ subst (λ (z : ℕ). get_or (side s.rows s.words z) j 0 ≡ 0) same (k.emptied j (omega arith)));
        rows = subst (λ (z : List ℕ). RowsAreGood s.rows z (λ _. 0) (tally old s.hooks)) (sym whole) (subst (λ (z : ℕ). RowsAreGood s.rows (taken ++ drop next (side s.rows s.words z)) (λ _. 0) (tally z s.hooks)) same k.rows);
      };
      count = g.count ∙ ap (λ (x : CollectAt). drained x N) drains;
      snaps = g.snaps;
    }

pub keeps_reopen : (s : State) (g : IsGood s) (taken : List ℕ) (list : List Row) → s.collector.at ≡ Draining (6 * s.rows) taken → (old : ℕ) → old + 1 ≡ s.collector.phase → (RowsAreGood s.rows taken (λ _. 0) (tally old s.hooks) → SnapshotIsGood s.rows list (tally old s.hooks)) → IsGood (after_reopen s old list)
keeps_reopen s g taken list drains old old_is t = let N : ℕ = s.collector.phase in let k : DrainingIsGood s (6 * s.rows) taken = subst (StageIsGood s) drains g.stage in let i = k.old_is in let same : k.old ≡ old = omega arith in
    let wide : length (side s.rows s.words old) ≡ 6 * s.rows = side_wide s.rows s.words old g.size.2 in
    let whole : taken ++ drop (6 * s.rows) (side s.rows s.words old) ≡ taken = ap (λ (z : List ℕ). taken ++ z) (drop_of_length-le (side s.rows s.words old) (let e : length (side s.rows s.words old) ≤ 6 * s.rows = omega arith in e)) ∙ append-nil taken in
    let rows : RowsAreGood s.rows taken (λ _. 0) (tally old s.hooks) = subst (λ (z : List ℕ). RowsAreGood s.rows z (λ _. 0) (tally old s.hooks)) whole (subst (λ (z : ℕ). RowsAreGood s.rows (taken ++ drop (6 * s.rows) (side s.rows s.words z)) (λ _. 0) (tally z s.hooks)) same k.rows) in
    let total = g.count ∙ ap (λ (x : CollectAt). drained x N) drains in let p : Snapshot = record { phase = old; rows = list } in let gone = exits_reset s.exits old in let kept = exits_keep s.exits old in
    let e : exits_at (no_more s.exits old) N ≡ exits_at s.exits N = subst (λ (z : ℕ). exits_at (no_more s.exits old) z ≡ exits_at s.exits z) old_is kept in record {
      size = g.size;
      shared = g.shared;
      choice_is = let c = g.choice_is in omega arith;
      phases = g.phases;
      entries = let c = g.entries in omega arith;
      each_view = g.each_view;
      rows_now = g.rows_now;
      stage = record {
        within = k.within;
        clear = λ j. ap (λ (z : List ℕ). get_or z j 0) (side_alike s.rows s.words old (N + 1) (omega arith)) ∙ dite (dec_le (j + 1) (6 * s.rows)) (λ lt. subst (λ (z : ℕ). get_or (side s.rows s.words z) j 0 ≡ 0) same (k.emptied j (omega arith)))
            (λ ge. get_or-eq_default (side s.rows s.words old) 0 (let q : length (side s.rows s.words old) ≤ j = omega arith in q));
        no_exits = exits_alike (no_more s.exits old) (N + 1) old (let q : (N + 1) % 2 ≡ old % 2 = omega arith in q) ∙ gone;
      };
      count = let a = length-append s.snapshots (p ∷ []) in omega arith;
      snaps = λ n q at. ⊎_elim (λ (h : slice_get s.snapshots n ≡ Some q). g.snaps n q h) (λ (h : (n ≡ length s.snapshots) × (p ≡ q)). let is : old ≡ n = (let z = h.0 in omega arith) in (
        sym (ap (λ (z : Snapshot). z.phase) h.1) ∙ is,
        subst (λ (z : List Row × ℕ). SnapshotIsGood s.rows z.0 (tally z.1 s.hooks)) (λ c. (ap (λ (z : Snapshot). z.rows) h.1 c, is c)) (t rows),
      )) (at_end s.snapshots p q n at);
    }
