-- Each step keeps the rule.
use Rattle.std.proofs.Common.{◌≡◌, ◌≢◌, ℕ, zero, suc, ◌+◌, ◌-◌, ◌*◌, ◌/◌, ◌≤◌, ◌<◌, max, List, [], ◌∷◌, ◌++◌, length, take, get_or, set, replicate, refl, sym, ap, ◌∙◌, subst, ⊎_elim, arith, length-append, length-set, get_or-set_other, get_or-set_same, lt_of_not-le}
use Rattle.std.specs.Prelude.{Option, Some, None}
use Rattle.std.proofs.lemmas.List.{length-take-le, length-replicate}
use mathlib.Core.Option.{some, some-injective, some-ne-none}
use mathlib.Core.Logic.{dite}
use native.Mathlib.Decide.{dec_le, ℕ_discrete}
use lib.ListN.{get_elem?}
use lib.Seq.{set-get_or}
use Rattle.atomic_table.specs.Table.{State, Me, keeps, stepped, Allows, Splits, Joins, opening}
use Rattle.atomic_table.proofs.Lists.{at_set, at_snoc, set_else}
use Rattle.acct_base.specs.declared.register.Key.{Key}
use Rattle.acct_base.specs.declared.register.Write.{Write}
use Rattle.acct_base.specs.declared.sizes.RegSizes.{RegSizes}
use Rattle.reg_words.specs.declared.view.View.{View}
use Rattle.reg_words.specs.declared.view.Kind.{Kind}
use Rattle.reg_words.specs.declared.view.Kind.TheVariants.{Gone, Writer, Reader}
use Rattle.reg_words.specs.declared.view.Stage.{Stage}
use Rattle.reg_words.specs.declared.view.Stage.TheVariants.{Idle, Probing, Found}
use Rattle.acct_base.specs.declared.register.Key.TheVariants.{Cookie}
use Rattle.reg_words.specs.Registers.{IsPrefix}
use Rattle.acct_base.specs.Registers.{IsValueOf}
use Rattle.reg_words.specs.Journal.{IsLast, value_at, has}
use Rattle.reg_words.specs.Places.{code, rows, total, spot, AllDecided, At, Stays}
use Rattle.reg_words.specs.Rule.{seen_at, RegisterIs, Stands, Met, Knows, Tells, Kept, opening_view, spent, fresh_right, joined, was_told, write_of, Fronted, Missed, Probed, Registered, Valued}
use Rattle.reg_words.proofs.Truths.{is_last_write, is_true}
use Rattle.reg_words.proofs.Prefixes.{at_bound, at_end, there, prefix_self, prefix_snoc, prefix_length, prefix_at, prefix_take, take_prefix, prefix_short, same_value, last_before, last_other, last_here, value_here, value_is, longer_prefix, shorter_prefix, shorter_below, all_zero}
use Rattle.reg_words.proofs.Spots.{spot_below, same_key, stays_set, decided_stays, at_stays, at_once, nowhere, nowhere_full, more_decided, owned_stays, owner_is}

abbrev U : Type 0
U = Unit {0}

value_or : Option ℕ → ℕ
value_or (Some x) = x
value_or None = 0

pub some_std : (x y : ℕ) → Some x ≡ Some y → x ≡ y
unfolding value_or
some_std x y e = ap value_or e

zero_one : (a b : ℕ) → a ≡ b → a ≡ 0 → b ≡ 1 → ⊥
zero_one a b e f g = omega arith

pub none_std : (y : ℕ) → None ≡ Some y → ⊥
none_std y e = zero_one (has None) (has (Some y)) (ap has e) refl refl

not_both : (a b c : ℕ) → a < b → b ≡ c → c ≤ a → ⊥
not_both a b c l e h = omega arith

has_small : (o : Option ℕ) → has o < 2
has_small None = omega arith
has_small (Some x) = omega arith

half : (n v : ℕ) (o : Option ℕ) (w : ℕ) → n ≡ 2 * v + has o → v ≤ w → n / 2 ≤ w
half n v o w e h = let b : has o < 2 = has_small o in grind arith

only_at : {A : Type 0} (a : A) (j : ℕ) (b : A) → get_elem? (a ∷ []) j ≡ some b → (j ≡ 0) × (a ≡ b)
only_at a zero b e = (refl, some-injective a b e)
only_at a (suc j) b e = absurd (some-ne-none b (sym e))

rank : Kind → ℕ
rank Gone = 0
rank Writer = 1
rank Reader = 2

two_zero : (n : ℕ) → n ≡ 0 → n ≡ 2 → ⊥
two_zero n a b = omega arith

pub live : (k : Kind) → k ≡ Reader → k ≢ Gone
unfolding rank
live k e f = let a : rank k ≡ 0 = ap rank f in let b : rank k ≡ 2 = ap rank e in two_zero (rank k) a b

pub live_writer : (k : Kind) → k ≡ Writer → k ≢ Gone
unfolding rank
live_writer k e f = zero_one 0 (rank k) (sym (ap rank f)) refl (ap rank e)

seats_stay : (K : ℕ → View → Type 0) (vs : List View) (me : ℕ) (w : View) → K me w → ((j : ℕ) (d : View) → j ≢ me → get_elem? vs j ≡ some d → K j d)
    → (j : ℕ) (d : View) → get_elem? (set vs me w) j ≡ some d → K j d
seats_stay K vs me w mine others j d e = ⊎_elim (λ (t : (j ≡ me) × (w ≡ d)). subst (λ (x : ℕ × View). K x.0 x.1) (λ i. (sym t.0 i, t.1 i)) mine)
    (λ (t : (j ≢ me) × (get_elem? vs j ≡ some d)). others j d t.0 t.1) (at_set vs me j w d e)

module _ (z : RegSizes) where
  abbrev St : Type 0
  St = State U View

  abbrev M : Type 0
  M = Me U View

  abbrev Rule : St → Type 0
  Rule = Kept z

  abbrev T : ℕ
  T = total z

  -- other seats at the same words
  reseated : (s : St) (r : Rule s) (l : List View) → ((j : ℕ) (d : View) → get_elem? l j ≡ some d → Knows z r.plan r.writer j d d.kind) → Rule record { words = s.words; homes = s.homes; views = l }
  reseated s r l all = record {
    plan = r.plan;
    writer = r.writer;
    wide = r.wide;
    tells = r.tells;
    each_seat = all;
  }

  -- a step of a reader, which changes no word
  unmoved : (s : St) (r : Rule s) (i me : ℕ) (cs : List (ℕ × U)) (w : View) → Knows z r.plan r.writer me w w.kind → Rule (stepped s i (get_or s.words i 0) me cs w keeps)
  unmoved s r i me cs w mine = subst (λ (ws : List ℕ). Rule record { words = ws; homes = s.homes; views = set s.views me w }) (sym (set-get_or s.words i 0))
      (reseated s r (set s.views me w) (seats_stay (λ j d. Knows z r.plan r.writer j d d.kind) s.views me w mine (λ j d _. r.each_seat j d)))

  pub as_reader : (s : St) (r : Rule s) (id : ℕ) (d : View) → d.kind ≡ Reader → get_elem? s.views id ≡ some d → Knows z r.plan r.writer id d Reader
  as_reader s r id d is at = subst (Knows z r.plan r.writer id d) is (r.each_seat id d at)

  -- a key that has no place has no write
  unwritten : (s : St) (r : Rule s) (key : Key) → ((u : ℕ) → At z r.plan.places key u → ⊥) → (d : List Write) → IsPrefix d r.plan.list → IsLast d key 0
  unwritten s r key nope d p = record {
    within = omega arith;
    later = λ i w _ e. λ (same : w.key ≡ key). let t = r.written i w (prefix_at d r.plan.list i w p e) in nope t.0 (subst (λ (k : Key). At z r.plan.places k t.0) same t.1);
    here = λ h. absurd (omega arith);
  }

  -- no write is to Cookie(0), since it stands nowhere
  unnamed : (s : St) (r : Rule s) (d : List Write) → IsPrefix d r.plan.list → IsLast d (Cookie 0) 0
  unnamed s r d p = unwritten s r (Cookie 0) (λ u a. a.named refl) d p

  pub loads_front : (slots id : ℕ) (me : M) → me.0.kind ≡ Reader → Allows Rule slots id me 0 (λ n. n) (λ n m. Fronted me.0 n m.0 × (m.1 ≡ me.1))
  loads_front slots id me is s r _ at _ = let d : View = me.0 in let k = as_reader s r id d is at in let n : ℕ = get_or s.words 0 0 in let m : ℕ = max n (length d.list) in
      let a = prefix_length d.list r.plan.list k.1 in let now = r.front_is in let shown = r.shown in
      let inside : m ≤ length r.plan.list = grind arith in let known : List Write = take m r.plan.list in let long : length known ≡ m = length-take-le m r.plan.list inside in
      let below : length d.list ≤ m = grind arith in let t = k.3 in
      let w : View = record d { list = known; loads = d.loads + 1; loaded = n } in (
        w,
        keeps,
        tt,
        unmoved s r 0 id me.1 w (subst (Knows z r.plan r.writer id w) (sym is) (k.0, take_prefix r.plan.list m, k.2, omega arith, k.4)),
        (record { known = known; grows = prefix_take d.list r.plan.list m k.1 below; long = long; inside = let room = r.room in let most : n ≤ z.writes = omega arith in subst (λ (y : RegSizes). n ≤ y.writes) (sym k.0) most; unnamed = sym (is_last_write known (Cookie 0) 0 (unnamed s r known (take_prefix r.plan.list m))); after = refl }, refl),
      )

  abbrev missed : View → Key → View
  missed d key = record d { stage = Idle; reads = d.reads ++ (key, record { version = 0; value = None }) ∷ [] }

  -- a reader's view with another stage
  staged : (s : St) (r : Rule s) (i id : ℕ) (me : M) (w : View) → w.kind ≡ Reader → Knows z r.plan r.writer id w Reader → Rule (stepped s i (get_or s.words i 0) id me.1 w keeps)
  staged s r i id me w is k = unmoved s r i id me.1 w (subst (Knows z r.plan r.writer id w) (sym is) k)

  miss : (s : St) (r : Rule s) (key : Key) (d : View) → ((u : ℕ) → At z r.plan.places key u → ⊥) → IsPrefix d.list r.plan.list → Missed key d (missed d key)
  miss s r key d nope p = record { truth = is_true d.list d.list key (seen_at 0 None) (let n : ℕ = length d.list in let e : n ≡ max n 0 = omega arith in e) (unwritten s r key nope d.list p) refl; unnamed = sym (is_last_write d.list (Cookie 0) 0 (unnamed s r d.list p)); after = refl }

  pub loads_key : (slots id : ℕ) (me : M) (key : Key) (turn : ℕ) → me.0.kind ≡ Reader → code key ≢ 0 → turn < rows z key → Met z me.0.stage key turn
      → Allows Rule slots id me (1 + spot z key turn) (λ n. n) (λ n m. Probed key turn me.0 n m.0 × (m.1 ≡ me.1))
  loads_key slots id me key turn is named below met s r _ at _ = let d : View = me.0 in let k = as_reader s r id d is at in let i : ℕ = 1 + spot z key turn in let n : ℕ = get_or s.words i 0 in
      let now : n ≡ get_or r.plan.places (spot z key turn) 0 = r.keys (spot z key turn) (spot_below z key turn below) in
      let all : AllDecided z r.plan.places key turn = met r.plan.places k.4 in
      dite (ℕ_discrete n 0)
      (λ free. let w : View = missed d key in (
        w,
        keeps,
        tt,
        staged s r i id me w is (k.0, k.1, k.2, k.3, tt),
        (record { hit = λ e. absurd (named (sym e ∙ free)); free = λ _. miss s r key d (nowhere z r.plan.places key turn all (sym now ∙ free)) k.1; on = λ e _ _. absurd (e free); full = λ e _ _. absurd (e free) }, refl),
      ))
      (λ taken. dite (ℕ_discrete n (code key))
      (λ hit. let w : View = record d { stage = Found key turn } in (
        w,
        keeps,
        tt,
        staged s r i id me w is (k.0, k.1, k.2, k.3, record { inside = below; named = named; is = sym now ∙ hit; earlier = all }),
        (record { hit = λ _. refl; free = λ e. absurd (taken e); on = λ _ e _. absurd (e hit); full = λ _ e _. absurd (e hit) }, refl),
      ))
      (λ other. let more = more_decided z r.plan.places key turn all (λ e. taken (now ∙ e), λ e. other (now ∙ e)) in let same : d.limits ≡ z = k.0 in
      dite (dec_le (rows z key) (turn + 1))
      (λ (last : rows z key ≤ turn + 1). let w : View = missed d key in let e : turn + 1 ≡ rows z key = omega arith in (
        w,
        keeps,
        tt,
        staged s r i id me w is (k.0, k.1, k.2, k.3, tt),
        (
          record {
            hit = λ e. absurd (other e);
            free = λ e. absurd (taken e);
            on = λ _ _ l. absurd (not_both (turn + 1) (rows d.limits key) (rows z key) l (ap (λ (y : RegSizes). rows y key) same) last);
            full = λ _ _ _. miss s r key d (nowhere_full z r.plan.places key (subst (AllDecided z r.plan.places key) e more)) k.1;
          },
          refl,
        ),
      ))
      (λ before. let w : View = record d { stage = Probing key (turn + 1) } in (
        w,
        keeps,
        tt,
        staged s r i id me w is (k.0, k.1, k.2, k.3, more),
        (
          record {
            hit = λ e. absurd (other e);
            free = λ e. absurd (taken e);
            on = λ _ _ _. refl;
            full = λ _ _ l. absurd (not_both (turn + 1) (rows z key) (rows d.limits key) (lt_of_not-le before) (ap (λ (y : RegSizes). rows y key) (sym same)) l);
          },
          refl,
        ),
      ))))

  pub loads_register : (slots id : ℕ) (me : M) (key : Key) (turn : ℕ) → me.0.kind ≡ Reader → me.0.stage ≡ Found key turn
      → Allows Rule slots id me (1 + total z + spot z key turn) (λ n. n) (λ n m. Registered key me.0 n m.0 × (m.1 ≡ me.1))
  loads_register slots id me key turn is stands s r _ at _ = let d : View = me.0 in let k = as_reader s r id d is at in
      let here : At z r.plan.places key turn = subst (Stands z r.plan.places) stands k.4 in
      let i : ℕ = 1 + total z + spot z key turn in let g = r.regs key turn here in let v : ℕ = g.0 in let n : ℕ = get_or s.words i 0 in
      let m : ℕ = max (length d.list) v in let a = prefix_length d.list r.plan.list k.1 in let b = g.2.within in
      let inside : m ≤ length r.plan.list = grind arith in let known : List Write = take m r.plan.list in let long : length known ≡ m = length-take-le m r.plan.list inside in
      let grown : length d.list ≤ m = grind arith in let v_in : v ≤ length known = grind arith in let t = k.3 in
      let p = take_prefix r.plan.list m in let same = same_value known r.plan.list v p v_in in
      let now : n ≡ 2 * v + has (value_at known v) = g.1 ∙ ap (λ (o : Option ℕ). 2 * v + has o) (sym same) in
      let room = r.room in let small : v ≤ z.writes = omega arith in let fits : v ≤ d.limits.writes = subst (λ (y : RegSizes). v ≤ y.writes) (sym k.0) small in
      let last : IsLast known key v = last_before known r.plan.list key v p v_in g.2 in
      let grows = prefix_take d.list r.plan.list m k.1 grown in
      dite (ℕ_discrete (has (value_at known v)) 0)
      (λ empty. let w : View = record d { list = known; stage = Idle; reads = d.reads ++ (key, record { version = v; value = None }) ∷ [] } in (
        w,
        keeps,
        tt,
        staged s r i id me w is (k.0, p, k.2, omega arith, tt),
        (record { known = known; version = v; grows = grows; long = long; inside = fits; small = half n v (value_at known v) d.limits.writes now fits; holds = now; last = last; truth = is_true d.list known key (seen_at v (value_at known v)) long last refl; unnamed = sym (is_last_write known (Cookie 0) 0 (unnamed s r known p)); empty = λ _. refl; full = λ no. absurd (no empty) }, refl),
      ))
      (λ full. let w : View = record d { list = known; stage = Idle } in (
        w,
        keeps,
        tt,
        staged s r i id me w is (k.0, p, k.2, omega arith, tt),
        (record { known = known; version = v; grows = grows; long = long; inside = fits; small = half n v (value_at known v) d.limits.writes now fits; holds = now; last = last; truth = is_true d.list known key (seen_at v (value_at known v)) long last refl; unnamed = sym (is_last_write known (Cookie 0) 0 (unnamed s r known p)); empty = λ no. absurd (full no); full = λ _. refl }, refl),
      ))

  pub loads_value : (slots id : ℕ) (me : M) (i v : ℕ) (key : Key) (u : Write) (x : ℕ) → me.0.kind ≡ Reader → 0 < v → get_elem? me.0.list (v - 1) ≡ some u → u.key ≡ key → u.value ≡ Some x → i ≡ total z + total z + v
      → Allows Rule slots id me i (λ n. n) (λ n m. Valued key v me.0 n m.0 × (m.1 ≡ me.1))
  loads_value slots id me i v key u x is some_write known of has_value place s r _ at _ = let d : View = me.0 in let k = as_reader s r id d is at in
      let n : ℕ = get_or s.words i 0 in let e : 1 + total z + total z + (v - 1) ≡ i = omega arith in
      let now : n ≡ x = subst (λ (y : ℕ). get_or s.words y 0 ≡ x) e (r.values (v - 1) u x (prefix_at d.list r.plan.list (v - 1) u k.1 known) has_value) in
      let w : View = record d { reads = d.reads ++ (key, record { version = v; value = Some n }) ∷ [] } in
      (w, keeps, tt, staged s r i id me w is k, (record { value = value_is d.list v u some_write known ∙ (has_value ∙ ap Some (sym now)); form = subst (λ (q : Key). IsValueOf q n) of (r.formed (v - 1) u n (prefix_at d.list r.plan.list (v - 1) u k.1 known) (has_value ∙ ap Some (sym now))); after = refl }, refl))

  -- what a step of the writer keeps of what the others know
  stands_on : (places later : List ℕ) → Stays places later → (st : Stage) → Stands z places st → Stands z later st
  stands_on places later stays Idle h = tt
  stands_on places later stays (Probing key turn) h = λ u l. decided_stays z places later key u stays (h u l)
  stands_on places later stays (Found key turn) h = at_stays z places later key turn stays h

  others_know : (p q : View) (me writer j : ℕ) (d : View) → writer ≡ me → ((a : List Write) → IsPrefix a p.list → IsPrefix a q.list) → Stays p.places q.places → j ≢ me → (k : Kind) → Knows z p writer j d k → Knows z q writer j d k
  others_know p q me writer j d own more stays other Gone h = tt
  others_know p q me writer j d own more stays other Writer h = absurd (other (h.1 ∙ own))
  others_know p q me writer j d own more stays other Reader h = (h.0, more d.list h.1, more d.told h.2, h.3, stands_on p.places q.places stays d.stage h.4)

  as_writer : (s : St) (r : Rule s) (id : ℕ) (d : View) → d.kind ≡ Writer → get_elem? s.views id ≡ some d → (d ≡ r.plan) × (id ≡ r.writer)
  as_writer s r id d is at = subst (Knows z r.plan r.writer id d) is (r.each_seat id d at)

  -- the rule with the writer's view in place of the plan, at the writer's own seat
  mine : (s : St) (r : Rule s) (id : ℕ) (d : View) → d.kind ≡ Writer → get_elem? s.views id ≡ some d → (q : Rule s) × (q.plan ≡ d) × (id ≡ q.writer)
  mine s r id d is at = let k = as_writer s r id d is at in (r, sym k.0, k.1)

  -- what the writer's view says of the words
  shows : (s : St) (r : Rule s) (d : View) → d ≡ r.plan → Tells z s.words d
  shows s r d e = subst (Tells z s.words) (sym e) r.tells

  -- a step of the writer that leaves the view w, at a table that shows the writer's view d
  wrote : (s : St) (r : Rule s) (i n id : ℕ) (cs : List (ℕ × U)) (w : View) → id ≡ r.writer → w.kind ≡ Writer → ((a : List Write) → IsPrefix a r.plan.list → IsPrefix a w.list) → Stays r.plan.places w.places
      → Tells z (set s.words i n) w → Rule (stepped s i n id cs w keeps)
  wrote s r i n id cs w own is more stays t = let wide = r.wide in record {
    plan = w;
    writer = r.writer;
    wide = length-set s.words i n ∙ wide;
    tells = t;
    each_seat = seats_stay (λ j d. Knows z w r.writer j d d.kind) s.views id w (subst (Knows z w r.writer id w) (sym is) (refl, own))
        (λ j d other at. others_know r.plan w id r.writer j d (sym own) more stays other d.kind (r.each_seat j d at));
  }

  same_stays : (p d : View) → d ≡ p → Stays p.places d.places
  same_stays p d e q _ = ap (λ (y : View). get_or y.places q 0) e

  spots_agree : (places : List ℕ) (a b : Key) (t u : ℕ) → a ≡ b → At z places a t → At z places b u → spot z b u ≡ spot z a t
  spots_agree places a b t u same x y = let x' : At z places b t = subst (λ (k : Key). At z places k t) same x in
      ap (spot z b) (at_once z places b u t y x') ∙ ap (λ (k : Key). spot z k t) (sym same)

  pub stores_value : (slots id : ℕ) (me : M) (i x : ℕ) → me.0.kind ≡ Writer → length me.0.list < z.writes → i ≡ 1 + total z + total z + length me.0.list
      → Allows Rule slots id me i (λ _. x) (λ _ m. (m.0 ≡ record me.0 { pending = Some x }) × (m.1 ≡ me.1))
  stores_value slots id me i x is room place s r _ at _ = let d : View = me.0 in let k = as_writer s r id d is at in let t = shows s r d k.0 in let wide = r.wide in
      let w : View = record d { pending = Some x } in
      let else_ : (j : ℕ) → j ≢ i → get_or (set s.words i x) j 0 ≡ get_or s.words j 0 = λ j ne. get_or-set_other s.words i j x 0 ne in (
        w,
        keeps,
        tt,
        wrote s r i x id me.1 w k.1 is (λ a p. subst (λ (y : View). IsPrefix a y.list) (sym k.0) p) (same_stays r.plan d k.0) record {
          sized = t.sized;
          role = t.role;
          room = t.room;
          front_is = else_ 0 (λ e. omega arith) ∙ t.front_is;
          shown = t.shown;
          brought = t.brought;
          placed = t.placed;
          keys = λ p l. else_ (1 + p) (λ e. omega arith) ∙ t.keys p l;
          owned = t.owned;
          blank = λ p l free. else_ (1 + total z + p) (λ e. omega arith) ∙ t.blank p l free;
          regs = λ key turn a. let below = spot_below z key turn a.inside in let p : ℕ = spot z key turn in let far : 1 + total z + p ≢ i = λ e. omega arith in
              subst (RegisterIs d.list key) (sym (else_ (1 + total z + p) far)) (t.regs key turn a);
          written = t.written;
          values = λ j u y e v. let inside = at_bound d.list j u e in else_ (1 + total z + total z + j) (λ e. omega arith) ∙ t.values j u y e v;
          formed = t.formed;
          next = λ y e. (room, ap (λ (q : ℕ). get_or (set s.words i x) q 0) (sym place) ∙ (get_or-set_same s.words i x 0 (omega arith) ∙ some_std x y e));
        },
        (refl, refl),
      )

  pub stores_front : (slots id : ℕ) (me : M) (n : ℕ) → me.0.kind ≡ Writer → n ≡ length me.0.list → Allows Rule slots id me 0 (λ _. n) (λ _ m. (m.0 ≡ record me.0 { front = n }) × (m.1 ≡ me.1))
  stores_front slots id me n is all s r _ at _ = let d : View = me.0 in let k = as_writer s r id d is at in let t = shows s r d k.0 in let wide = r.wide in
      let w : View = record d { front = n } in
      let else_ : (j : ℕ) → j ≢ 0 → get_or (set s.words 0 n) j 0 ≡ get_or s.words j 0 = λ j ne. get_or-set_other s.words 0 j n 0 ne in (
        w,
        keeps,
        tt,
        wrote s r 0 n id me.1 w k.1 is (λ a p. subst (λ (y : View). IsPrefix a y.list) (sym k.0) p) (same_stays r.plan d k.0) record {
          sized = t.sized;
          role = t.role;
          room = t.room;
          front_is = get_or-set_same s.words 0 n 0 (omega arith);
          shown = omega arith;
          brought = t.brought;
          placed = t.placed;
          keys = λ p l. else_ (1 + p) (λ e. omega arith) ∙ t.keys p l;
          owned = t.owned;
          blank = λ p l free. else_ (1 + total z + p) (λ e. omega arith) ∙ t.blank p l free;
          regs = λ key turn a. let p : ℕ = spot z key turn in let far : 1 + total z + p ≢ 0 = λ e. omega arith in subst (RegisterIs d.list key) (sym (else_ (1 + total z + p) far)) (t.regs key turn a);
          written = t.written;
          values = λ j u y e v. else_ (1 + total z + total z + j) (λ e. omega arith) ∙ t.values j u y e v;
          formed = t.formed;
          next = λ y e. let h = t.next y e in (h.0, else_ (1 + total z + total z + length d.list) (λ e. omega arith) ∙ h.1);
        },
        (refl, refl),
      )

  -- a key takes a place
  pub stores_key : (slots id : ℕ) (me : M) (i : ℕ) (key : Key) (turn : ℕ) → me.0.kind ≡ Writer → code key ≢ 0 → turn < rows z key → AllDecided z me.0.places key turn → get_or me.0.places (spot z key turn) 0 ≡ 0 → i ≡ 1 + spot z key turn
      → Allows Rule slots id me i (λ _. code key) (λ _ m. (m.0 ≡ record me.0 { places = set me.0.places (i - 1) (code key) }) × (m.1 ≡ me.1))
  stores_key slots id me i key turn is named below all free place s r _ at _ = let d : View = me.0 in let k = as_writer s r id d is at in let t = shows s r d k.0 in let wide = r.wide in
      let p : ℕ = spot z key turn in let p_in : p < total z = spot_below z key turn below in let n : ℕ = code key in let back : i - 1 ≡ p = omega arith in
      let places : List ℕ = set d.places (i - 1) n in let w : View = record d { places = places } in
      let free' : get_or d.places (i - 1) 0 ≡ 0 = subst (λ (q : ℕ). get_or d.places q 0 ≡ 0) (sym back) free in
      let stays : Stays d.places places = stays_set d.places (i - 1) n free' in
      let else_ : (j : ℕ) → j ≢ i → get_or (set s.words i n) j 0 ≡ get_or s.words j 0 = λ j ne. get_or-set_other s.words i j n 0 ne in
      let there : get_or places p 0 ≡ n = subst (λ (q : ℕ). get_or (set d.places q n) p 0 ≡ n) (sym back) (get_or-set_same d.places p n 0 (let e = t.placed in omega arith)) in
      let apart : (q : ℕ) → q ≢ p → get_or places q 0 ≡ get_or d.places q 0 = λ q ne. get_or-set_other d.places (i - 1) q n 0 (λ e. ne (e ∙ back)) in
      let now : At z places key turn = record { inside = below; named = named; is = there; earlier = λ u l. decided_stays z d.places places key u stays (all u l) } in (
        w,
        keeps,
        tt,
        wrote s r i n id me.1 w k.1 is (λ a q. subst (λ (y : View). IsPrefix a y.list) (sym k.0) q) (subst (λ (y : View). Stays y.places places) k.0 stays) record {
          sized = t.sized;
          role = t.role;
          room = t.room;
          front_is = else_ 0 (λ e. omega arith) ∙ t.front_is;
          shown = t.shown;
          brought = t.brought;
          placed = length-set d.places (i - 1) n ∙ t.placed;
          keys = λ q l. dite (ℕ_discrete q p)
              (λ (e : q ≡ p). let e' : 1 + q ≡ i = omega arith in (ap (λ (j : ℕ). get_or (set s.words i n) j 0) e' ∙ get_or-set_same s.words i n 0 (omega arith)) ∙ sym (ap (λ (j : ℕ). get_or places j 0) e ∙ there))
              (λ ne. else_ (1 + q) (λ e. ne (omega arith)) ∙ (t.keys q l ∙ sym (apart q ne)));
          owned = λ q l taken. dite (ℕ_discrete q p)
              (λ (e : q ≡ p). record { key = key; turn = turn; at = now; here = sym e })
              (λ ne. owned_stays z d.places places q stays (t.owned q l (λ e. taken (apart q ne ∙ e))));
          blank = λ q l empty. else_ (1 + total z + q) (λ e. omega arith) ∙ dite (ℕ_discrete q p)
              (λ (e : q ≡ p). absurd (named (sym there ∙ (ap (λ (j : ℕ). get_or places j 0) (sym e) ∙ empty))))
              (λ ne. t.blank q l (sym (apart q ne) ∙ empty));
          regs = λ key2 turn2 a. let q : ℕ = spot z key2 turn2 in let far : 1 + total z + q ≢ i = λ e. omega arith in
              subst (RegisterIs d.list key2) (sym (else_ (1 + total z + q) far)) (dite (ℕ_discrete q p)
              (λ (e : q ≡ p). let same : key ≡ key2 = same_key z key key2 turn turn2 below a.inside (sym e) (sym there ∙ (ap (λ (j : ℕ). get_or places j 0) (sym e) ∙ a.is)) in
              subst (λ (x : Key). RegisterIs d.list x (get_or s.words (1 + total z + q) 0)) same (
                0,
                t.blank q (subst (λ (j : ℕ). j < total z) (sym e) p_in) (ap (λ (j : ℕ). get_or d.places j 0) e ∙ free),
                subst (λ (y : View). IsLast y.list key 0) (sym k.0) (unwritten s r key (subst (λ (y : View). (u : ℕ) → At z y.places key u → ⊥) k.0 (nowhere z d.places key turn all free)) r.plan.list (prefix_self r.plan.list)),
              ))
              (λ ne. let is : get_or d.places q 0 ≡ code key2 = sym (apart q ne) ∙ a.is in
              t.regs key2 turn2 (owner_is z d.places key2 turn2 a.inside is (t.owned q (spot_below z key2 turn2 a.inside) (λ e. a.named (sym is ∙ e))))));
          written = λ j u e. let h = t.written j u e in (h.0, at_stays z d.places places u.key h.0 stays h.1);
          values = λ j u y e v. else_ (1 + total z + total z + j) (λ e. omega arith) ∙ t.values j u y e v;
          formed = t.formed;
          next = λ y e. let h = t.next y e in (h.0, else_ (1 + total z + total z + length d.list) (λ e. omega arith) ∙ h.1);
        },
        (refl, refl),
      )

  -- the write takes its place in the journal
  pub stores_register : (slots id : ℕ) (me : M) (i : ℕ) (key : Key) (turn n : ℕ) → me.0.kind ≡ Writer → length me.0.list < z.writes → ((x : ℕ) → me.0.pending ≡ Some x → IsValueOf key x) → At z me.0.places key turn → n ≡ 2 * (length me.0.list + 1) + has me.0.pending → i ≡ 1 + total z + spot z key turn
      → Allows Rule slots id me i (λ _. n) (λ _ m. (m.0 ≡ record me.0 { list = me.0.list ++ write_of key me.0.pending ∷ []; pending = None }) × (m.1 ≡ me.1))
  stores_register slots id me i key turn n is room form here packed place s r _ at _ = let d : View = me.0 in let k = as_writer s r id d is at in let t = shows s r d k.0 in let wide = r.wide in
      let p : ℕ = spot z key turn in let p_in : p < total z = spot_below z key turn here.inside in
      let e : Write = write_of key d.pending in let l : List Write = d.list ++ e ∷ [] in let long : length l ≡ length d.list + 1 = length-append d.list (e ∷ []) in
      let w : View = record d { list = l; pending = None } in
      let else_ : (j : ℕ) → j ≢ i → get_or (set s.words i n) j 0 ≡ get_or s.words j 0 = λ j ne. get_or-set_other s.words i j n 0 ne in
      let set_here : get_or (set s.words i n) i 0 ≡ n = get_or-set_same s.words i n 0 (omega arith) in
      let value_now : value_at l (length d.list + 1) ≡ d.pending = value_here d.list e (length d.list + 1) refl in (
        w,
        keeps,
        tt,
        wrote s r i n id me.1 w k.1 is (λ a q. prefix_snoc a d.list e (subst (λ (y : View). IsPrefix a y.list) (sym k.0) q)) (same_stays r.plan d k.0) record {
          sized = t.sized;
          role = t.role;
          room = omega arith;
          front_is = else_ 0 (λ e. omega arith) ∙ t.front_is;
          shown = let a = t.shown in omega arith;
          brought = prefix_snoc d.told d.list e t.brought;
          placed = t.placed;
          keys = λ q l. else_ (1 + q) (λ e. omega arith) ∙ t.keys q l;
          owned = t.owned;
          blank = λ q l free. let apart : q ≢ p = λ (e : q ≡ p). here.named (sym here.is ∙ subst (λ (y : ℕ). get_or d.places y 0 ≡ 0) e free) in else_ (1 + total z + q) (λ e. apart (omega arith)) ∙ t.blank q l free;
          regs = λ key2 turn2 a. let q : ℕ = spot z key2 turn2 in dite (ℕ_discrete q p)
              (λ (same_place : q ≡ p). let same : key ≡ key2 = same_key z key key2 turn turn2 here.inside a.inside (sym same_place) (sym here.is ∙ (ap (λ (y : ℕ). get_or d.places y 0) (sym same_place) ∙ a.is)) in
              let at_i : 1 + total z + q ≡ i = omega arith in (
                length d.list + 1,
                (ap (λ (y : ℕ). get_or (set s.words i n) y 0) at_i ∙ set_here) ∙ (packed ∙ ap (λ (o : Option ℕ). 2 * (length d.list + 1) + has o) (sym value_now)),
                subst (λ (x : Key). IsLast l x (length d.list + 1)) same (last_here d.list e),
              ))
              (λ apart. let g = t.regs key2 turn2 a in let v_in = g.2.within in
              let ne : key ≢ key2 = λ (same : key ≡ key2). apart (spots_agree d.places key key2 turn turn2 same here a) in
              (g.0, else_ (1 + total z + q) (λ e. apart (omega arith)) ∙ (g.1 ∙ ap (λ (o : Option ℕ). 2 * g.0 + has o) (same_value d.list l g.0 (e ∷ [], refl) v_in)), last_other d.list e key2 g.0 ne g.2));
          written = λ j u f. ⊎_elim (λ (x : get_elem? d.list j ≡ some u). t.written j u x) (λ (x : e ≡ u). (turn, subst (λ (y : Write). At z d.places y.key turn) x here)) (at_snoc d.list e u j f);
          values = λ j u y f v. ⊎_elim (λ (x : get_elem? d.list j ≡ some u). let inside = at_bound d.list j u x in else_ (1 + total z + total z + j) (λ e. omega arith) ∙ t.values j u y x v)
              (λ (x : (j ≡ length d.list) × (e ≡ u)). let kept = t.next y (ap (λ (y : Write). y.value) x.1 ∙ v) in
              else_ (1 + total z + total z + j) (λ e. omega arith) ∙ (ap (λ (y : ℕ). get_or s.words (1 + total z + total z + y) 0) x.0 ∙ kept.1)) (at_end d.list e u j f);
          next = λ y e. absurd (none_std y e);
          formed = λ j u y f v. ⊎_elim (λ (x : get_elem? d.list j ≡ some u). t.formed j u y x v)
              (λ (x : e ≡ u). subst (λ (q : Write). IsValueOf q.key y) x (form y (ap (λ (q : Write). q.value) x ∙ v))) (at_snoc d.list e u j f);
        },
        (refl, refl),
      )

  -- a load by a seat that joined another tells how the two lists stand to each other
  pub settles_reader : (slots id : ℕ) (me : M) (i : ℕ) → i ≢ 0 → me.0.kind ≡ Reader → Allows Rule slots id me i (λ n. n) (λ n m. (i ≢ 0) × IsPrefix me.0.told me.0.list × (m.0 ≡ me.0) × (m.1 ≡ me.1))
  settles_reader slots id me i other is s r _ at _ = let d : View = me.0 in let k = as_reader s r id d is at in
      (d, keeps, tt, staged s r i id me d is k, (other, prefix_short d.told d.list r.plan.list k.2 k.1 k.3, refl, refl))

  pub settles_writer : (slots id : ℕ) (me : M) (i : ℕ) → i ≢ 0 → me.0.kind ≡ Writer → Allows Rule slots id me i (λ n. n) (λ n m. (i ≢ 0) × IsPrefix me.0.told me.0.list × (m.0 ≡ me.0) × (m.1 ≡ me.1))
  settles_writer slots id me i other is s r _ at _ = let d : View = me.0 in let k = as_writer s r id d is at in
      (d, keeps, tt, unmoved s r i id me.1 d (subst (Knows z r.plan r.writer id d) (sym is) k), (other, subst (λ (y : View). IsPrefix y.told y.list) (sym k.0) r.brought, refl, refl))

  -- what a note that is cut off a seat knows
  note_knows : (p : View) (writer id j : ℕ) (d : View) → p.limits ≡ z → (k : Kind) → k ≢ Gone → Knows z p writer id d k → Knows z p writer j (fresh_right d) Reader
  note_knows p writer id j d sized Gone live h = absurd (live refl)
  note_knows p writer id j d sized Writer live h = (ap (λ (y : View). y.limits) h.0 ∙ sized, subst (λ (y : View). IsPrefix y.list p.list) (sym h.0) (prefix_self p.list), (p.list, refl), omega arith, tt)
  note_knows p writer id j d sized Reader live h = (h.0, h.1, (p.list, refl), omega arith, tt)

  pub splits : (id : ℕ) (d : View) → d.kind ≢ Gone → Splits Rule id d d (fresh_right d)
  splits id d live s r at = reseated s r (set s.views id d ++ fresh_right d ∷ []) (λ j e f. ⊎_elim
      (λ (t : get_elem? (set s.views id d) j ≡ some e). seats_stay (λ j d. Knows z r.plan r.writer j d d.kind) s.views id d (r.each_seat id d at) (λ j d _. r.each_seat j d) j e t)
      (λ (t : fresh_right d ≡ e). subst (λ (y : View). Knows z r.plan r.writer j y y.kind) t (note_knows r.plan r.writer id j d r.sized d.kind live (r.each_seat id d at)))
      (at_snoc (set s.views id d) (fresh_right d) e j f))

  pub joins_reader : (id : ℕ) (d : View) (other : ℕ) (e : View) → d.kind ≡ Reader → e.kind ≡ Reader → Joins Rule id d other e (joined d e) spent
  joins_reader id d other e is also s r at apart there = let k = as_reader s r id d is at in
      let h = as_reader s r other e also (sym (set_else s.views id other (joined d e) apart) ∙ there) in
      reseated s r (set (set s.views id (joined d e)) other spent) (seats_stay (λ j x. Knows z r.plan r.writer j x x.kind) (set s.views id (joined d e)) other spent tt
      (λ j x _ f. seats_stay (λ j x. Knows z r.plan r.writer j x x.kind) s.views id (joined d e)
      (subst (Knows z r.plan r.writer id (joined d e)) (sym is) (k.0, longer_prefix d.list e.list r.plan.list k.1 h.1, shorter_prefix d.list e.list r.plan.list k.1 h.1, shorter_below d.list e.list, k.4))
      (λ j x _. r.each_seat j x) j x f))

  pub joins_writer : (id : ℕ) (d : View) (other : ℕ) (e : View) → d.kind ≡ Writer → e.kind ≡ Reader → Joins Rule id d other e (was_told d e) spent
  joins_writer id d other e is also s r at apart there = let k = as_writer s r id d is at in let p : View = r.plan in let w : View = was_told d e in let t = shows s r d k.0 in
      let h = as_reader s r other e also (sym (set_else s.views id other w apart) ∙ there) in
      let brings : IsPrefix e.list d.list = subst (λ (y : View). IsPrefix e.list y.list) (sym k.0) h.1 in
      record {
        plan = w;
        writer = r.writer;
        wide = r.wide;
        tells = record {
          sized = t.sized;
          role = t.role;
          room = t.room;
          front_is = t.front_is;
          shown = t.shown;
          brought = brings;
          placed = t.placed;
          keys = t.keys;
          owned = t.owned;
          blank = t.blank;
          regs = t.regs;
          written = t.written;
          values = t.values;
          next = t.next;
          formed = t.formed;
        };
        each_seat = seats_stay (λ j x. Knows z w r.writer j x x.kind) (set s.views id w) other spent tt
            (λ j x _ f. seats_stay (λ j x. Knows z w r.writer j x x.kind) s.views id w (subst (Knows z w r.writer id w) (sym is) (refl, k.1))
            (λ j x apart at. others_know p w id r.writer j x (sym k.1) (λ a q. subst (λ (y : View). IsPrefix a y.list) (sym k.0) q) (same_stays p d k.0) apart x.kind (r.each_seat j x at)) j x f);
      }

  no_at : (key : Key) (turn : ℕ) → At z (replicate (total z) 0) key turn → ⊥
  no_at key turn a = a.named (sym a.is ∙ all_zero (replicate (total z) 0) (total z) refl (spot z key turn))

  pub opens : (words : List ℕ) → length words ≡ 1 + total z + total z + z.writes → ((i : ℕ) → get_or words i 0 ≡ 0) → Rule (opening words [] (opening_view z))
  opens words long zeros = let none_placed = all_zero (replicate (total z) 0) (total z) refl in record {
    plan = opening_view z;
    writer = 0;
    wide = long;
    tells = record {
      sized = refl;
      role = refl;
      room = omega arith;
      front_is = zeros 0;
      shown = omega arith;
      brought = ([], refl);
      placed = length-replicate (total z) 0;
      keys = λ p _. zeros (1 + p) ∙ sym (none_placed p);
      owned = λ p _ taken. absurd (taken (none_placed p));
      blank = λ p _ _. zeros (1 + total z + p);
      regs = λ key turn a. absurd (no_at key turn a);
      written = λ i w e. absurd (some-ne-none w (sym e));
      values = λ i w x e _. absurd (some-ne-none w (sym e));
      next = λ x e. absurd (none_std x e);
      formed = λ i w x e _. absurd (some-ne-none w (sym e));
    };
    each_seat = λ j d e. let t = only_at (opening_view z) j d e in subst (λ (y : ℕ × View). Knows z (opening_view z) 0 y.0 y.1 y.1.kind) (λ i. (sym t.0 i, t.1 i)) (refl, refl);
  }

  pub loads_key_at : (slots id : ℕ) (me : M) (i : ℕ) (key key' : Key) (turn turn' : ℕ) → me.0.kind ≡ Reader → code key ≢ 0 → turn < rows z key → Met z me.0.stage key turn → i ≡ 1 + spot z key turn → key' ≡ key → turn' ≡ turn
      → Allows Rule slots id me i (λ n. n) (λ n m. Probed key' turn' me.0 n m.0 × (m.1 ≡ me.1))
  loads_key_at slots id me i key key' turn turn' is named below met place e f = subst (λ (x : ℕ × Key × ℕ). Allows Rule slots id me x.0 (λ n. n) (λ n m. Probed x.1 x.2 me.0 n m.0 × (m.1 ≡ me.1)))
      (λ j. (sym place j, sym e j, sym f j)) (loads_key slots id me key turn is named below met)

  pub loads_register_at : (slots id : ℕ) (me : M) (i : ℕ) (key key' : Key) (turn : ℕ) → me.0.kind ≡ Reader → me.0.stage ≡ Found key turn → i ≡ 1 + total z + spot z key turn → key' ≡ key
      → Allows Rule slots id me i (λ n. n) (λ n m. Registered key' me.0 n m.0 × (m.1 ≡ me.1))
  loads_register_at slots id me i key key' turn is stands place e = subst (λ (x : ℕ × Key). Allows Rule slots id me x.0 (λ n. n) (λ n m. Registered x.1 me.0 n m.0 × (m.1 ≡ me.1))) (λ j. (sym place j, sym e j)) (loads_register slots id me key turn is stands)

  pub loads_value_at : (slots id : ℕ) (me : M) (i v v' : ℕ) (key key' : Key) (u : Write) (x : ℕ) → me.0.kind ≡ Reader → 0 < v → get_elem? me.0.list (v - 1) ≡ some u → u.key ≡ key → u.value ≡ Some x → i ≡ total z + total z + v → key' ≡ key → v' ≡ v
      → Allows Rule slots id me i (λ n. n) (λ n m. Valued key' v' me.0 n m.0 × (m.1 ≡ me.1))
  loads_value_at slots id me i v v' key key' u x is some_write known of has_value place e f = subst (λ (y : Key × ℕ). Allows Rule slots id me i (λ n. n) (λ n m. Valued y.0 y.1 me.0 n m.0 × (m.1 ≡ me.1))) (λ j. (sym e j, sym f j))
      (loads_value slots id me i v key u x is some_write known of has_value place)

  pub stores_key_at : (slots id : ℕ) (me : M) (i n : ℕ) (key : Key) (turn : ℕ) → me.0.kind ≡ Writer → code key ≢ 0 → turn < rows z key → AllDecided z me.0.places key turn → get_or me.0.places (spot z key turn) 0 ≡ 0 → i ≡ 1 + spot z key turn → n ≡ code key
      → Allows Rule slots id me i (λ _. n) (λ _ m. (m.0 ≡ record me.0 { places = set me.0.places (i - 1) n }) × (m.1 ≡ me.1))
  stores_key_at slots id me i n key turn is named below all free place e = subst (λ (x : ℕ). Allows Rule slots id me i (λ _. x) (λ _ m. (m.0 ≡ record me.0 { places = set me.0.places (i - 1) x }) × (m.1 ≡ me.1))) (sym e)
      (stores_key slots id me i key turn is named below all free place)

  pub stores_register_at : (slots id : ℕ) (me : M) (i : ℕ) (key key' : Key) (turn n : ℕ) → me.0.kind ≡ Writer → length me.0.list < z.writes → ((x : ℕ) → me.0.pending ≡ Some x → IsValueOf key x) → At z me.0.places key turn → n ≡ 2 * (length me.0.list + 1) + has me.0.pending → i ≡ 1 + total z + spot z key turn → key' ≡ key
      → Allows Rule slots id me i (λ _. n) (λ _ m. (m.0 ≡ record me.0 { list = me.0.list ++ write_of key' me.0.pending ∷ []; pending = None }) × (m.1 ≡ me.1))
  stores_register_at slots id me i key key' turn n is room form here packed place e = subst (λ (x : Key). Allows Rule slots id me i (λ _. n) (λ _ m. (m.0 ≡ record me.0 { list = me.0.list ++ write_of x me.0.pending ∷ []; pending = None }) × (m.1 ≡ me.1))) (sym e)
      (stores_register slots id me i key turn n is room form here packed place)
