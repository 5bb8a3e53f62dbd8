-- Each step of a read keeps the rule, and a look at the rule tells what a seat at rest may rely on.
use Rattle.std.proofs.Common.{◌≡◌, ℕ, suc, ◌+◌, ◌*◌, ◌≤◌, ◌<◌, List, [], ◌∷◌, ◌++◌, length, get_or, Bool, true, false, ◌&&◌, nat_eq, sum_by, refl, sym, ap, ◌∙◌, subst, ⊎_elim, arith, lt_of_not-le, ne_eqb}
use Rattle.std.specs.Prelude.{max}
use mathlib.Core.Option.{some}
use mathlib.Core.Logic.{dite}
use native.Mathlib.Decide.{dec_le, ℕ_discrete}
use lib.ListN.{get_elem?}
use Rattle.atomic_table.specs.Table.{State, Me, keeps, stepped, Allows}
use Rattle.atomic_table.proofs.Lists.{at_snoc}
use Rattle.total_rows.specs.declared.plan.Plan.{Plan}
use Rattle.total_rows.specs.declared.plan.Note.{Note}
use Rattle.total_rows.specs.declared.plan.Note.TheVariants.{Number}
use Rattle.total_rows.specs.declared.plan.View.{View}
use Rattle.total_rows.specs.declared.plan.Stage.{Stage}
use Rattle.total_rows.specs.declared.plan.Stage.TheVariants.{Idle, Probing, Row, Half, Looking, Reading}
use Rattle.total_rows.specs.Rows.{code, spot, AllDecided, At}
use Rattle.total_rows.specs.Sums.{if_is, added, under_way, part, stands_at, noted, most, knows}
use Rattle.total_rows.specs.Rule.{busy, calls, Stands, Tells, Kept}
use Rattle.total_rows.specs.Plays.{IsCalm, Seeking, Looked, Noted, Settled}
use Rattle.total_rows.proofs.Spots.{more_decided, nowhere, in_sum, zero_sum}
use Rattle.total_rows.specs.declared.plan.Addition.{Addition}
use Rattle.total_rows.specs.Seats.{IsOneToOne}
use Rattle.total_rows.specs.Shown.{places_of}
use Rattle.total_rows.proofs.LandingLemmas.{one_to_one}
use Rattle.total_rows.proofs.Keeps.{unmoved, nothing, sole_has_all}

abbrev U : Type 0
U = Unit {0}

-- ---- what is known is there

-- All notes tell of a number at most this.
most_within : (key c n : ℕ) (l : List Note) → ((i : ℕ) (x : Note) → get_elem? l i ≡ some x → noted key c x ≤ n) → most key c l ≤ n
most_within key c n [] h = omega arith
most_within key c n (x ∷ xs) h = let a = h 0 x refl in let b = most_within key c n xs (λ i y e. h (suc i) y e) in omega (arith, a, b)

both_within : (a b n : ℕ) → a ≤ n → b ≤ n → max a b ≤ n
both_within a b n h i = omega (arith, h, i)

at_most_then : (k n m : ℕ) → k ≤ n → n ≤ m → k ≤ m
at_most_then k n m h le = omega arith

none_then : (n m : ℕ) → n ≤ m → m ≡ 0 → n ≡ 0
none_then n m h e = omega arith

part_has : (a u : ℕ) → a ≤ a + u
part_has a u = omega arith

own_within : (a b n : ℕ) → max a b ≤ n → n ≡ b → max a b ≡ b
own_within a b n h e = omega (arith, h, e)

few_calls : (w v m all : ℕ) → w ≡ v → v ≤ m → m ≡ all → w ≤ all
few_calls w v m all e h f = omega arith

pub few_adds : (n b m : ℕ) → n + b ≤ m → n ≤ m
few_adds n b m h = omega arith

-- ---- stages that weigh nothing

pub record IsQuiet (st : Stage) : Type 0 where
  pub idle : busy st ≡ 0
  pub way : (key c : ℕ) → under_way key c st ≡ 0
  pub away : (key : ℕ) → stands_at key st ≡ 0

calm_is_quiet : (st : Stage) → IsCalm st → IsQuiet st
calm_is_quiet Idle h = record { idle = refl; way = λ key c. refl; away = λ key. refl }
calm_is_quiet (Looking k t) h = record { idle = refl; way = λ key c. refl; away = λ key. refl }
calm_is_quiet (Reading k t) h = absurd h
calm_is_quiet (Probing j t) h = absurd h
calm_is_quiet (Row j t) h = absurd h
calm_is_quiet (Half j t) h = absurd h

pub looking_is_quiet : (k t : ℕ) → IsQuiet (Looking k t)
looking_is_quiet k t = record { idle = refl; way = λ key c. refl; away = λ key. refl }

pub reading_is_quiet : (k t : ℕ) → IsQuiet (Reading k t)
reading_is_quiet k t = record { idle = refl; way = λ key c. refl; away = λ key. refl }

pub idle_is_quiet : IsQuiet Idle
idle_is_quiet = record { idle = refl; way = λ key c. refl; away = λ key. refl }

quiet_le : (a u w : ℕ) → u ≡ 0 → a + u ≤ a + w
quiet_le a u w e = omega arith

quiet_same : (a u w : ℕ) → u ≡ 0 → w ≡ 0 → a + w ≡ a + u
quiet_same a u w e f = omega arith

quiet_fits : (n b d m : ℕ) → n + b ≤ m → d ≡ 0 → n + d ≤ m
quiet_fits n b d m h e = omega arith

module _ (z : Plan) where
  abbrev St : Type 0
  St = State U View

  abbrev M : Type 0
  M = Me U View

  abbrev R : ℕ
  R = z.rows

  -- what a seat knows of a number is at most what all seats added to it
  pub known_within : (s : St) (r : Kept z s) (id : ℕ) (v : View) → get_elem? s.views id ≡ some v → (key c : ℕ) → knows key c v ≤ sum_by (part key c) s.views
  known_within s r id v at key c = both_within (most key c v.notes) (added key c v.adds) (sum_by (part key c) s.views)
      (most_within key c (sum_by (part key c) s.views) v.notes (λ i x e. r.each_note id v at i x e key c))
      (at_most_then (added key c v.adds) (part key c v) (sum_by (part key c) s.views) (part_has (added key c v.adds) (under_way key c v.stage)) (in_sum (part key c) s.views id v at))

  -- what the rule says of a seat that is in no row
  pub settled_here : (s : St) (r : Kept z s) (id : ℕ) (v w : View) → get_elem? s.views id ≡ some v → ((key c : ℕ) → under_way key c v.stage ≡ 0) → calls w ≡ calls v → w.adds ≡ v.adds → w.notes ≡ v.notes → length v.adds ≤ w.made → Settled z.calls w
  settled_here s r id v w at quiet same adds notes made = record {
    within = few_calls (calls w) (calls v) (sum_by calls s.views) z.calls same (in_sum calls s.views id v at) r.budget;
    few = r.small;
    counted = subst (λ (l : List Addition). length l ≤ w.made) (sym adds) made;
    one_to_one = subst (λ (l : List Addition). IsOneToOne (places_of l)) (sym adds) (one_to_one R s.words v.adds (r.each_seat id v at).adds);
    sole = λ all key c. subst (λ (x : List Note × List Addition). max (most key c x.0) (added key c x.1) ≡ added key c x.1) (λ i. (sym notes i, sym adds i))
        (own_within (most key c v.notes) (added key c v.adds) (sum_by (part key c) s.views) (known_within s r id v at key c) (sole_has_all z s r id v at (sym same ∙ all) key c (quiet key c)));
  }

  -- a step that changes the stage alone, from and to one that weighs nothing
  restaged : (s : St) (r : Kept z s) (i id : ℕ) (cs : List (ℕ × U)) (v : View) (next : Stage) → get_elem? s.views id ≡ some v → IsQuiet v.stage → IsQuiet next → Stands R s.words next
      → Kept z (stepped s i (get_or s.words i 0) id cs (record v { stage = next }) keeps)
  restaged s r i id cs v next at old new stands = let sits = r.each_seat id v at in
      unmoved z s r i id cs v (record v { stage = next }) at
      record { stands = stands; adds = sits.adds; counted = quiet_fits (length v.adds) (busy v.stage) (busy next) v.made sits.counted new.idle }
      record {
        calls_stay = refl;
        parts = λ key c. quiet_le (added key c v.adds) (under_way key c v.stage) (under_way key c next) (old.way key c);
        rows = λ key. quiet_le _ (stands_at key v.stage) (stands_at key next) (old.away key);
        notes = λ j n e. r.each_note id v at j n e;
      }
      (λ key c. quiet_same (added key c v.adds) (under_way key c v.stage) (under_way key c next) (old.way key c) (new.way key c))

  -- nothing is known of a key that has no row
  unknown : (s : St) (r : Kept z s) (id : ℕ) (v : View) → get_elem? s.views id ≡ some v → (key : ℕ) → ((u : ℕ) → At R s.words key u → ⊥) → (c : ℕ) → knows key c v ≡ 0
  unknown s r id v at key nope c = none_then (knows key c v) (sum_by (part key c) s.views) (known_within s r id v at key c)
      (zero_sum (part key c) s.views (λ i x f. nothing z s r key c nope x (r.each_seat i x f)))

  no_row_left : (words : List ℕ) (key turn : ℕ) → AllDecided R words key turn → R ≤ turn → (u : ℕ) → At R words key u → ⊥
  no_row_left words key turn all last u a = (all u (let h = a.inside in omega arith)).1 a.is

  pub looks : (slots id : ℕ) (me : M) (key turn : ℕ) → turn < R → Seeking R key turn me.0
      → Allows (Kept z) slots id me (spot R key turn) (λ n. n) (λ n m. Looked R z.calls key turn me.0 n m.0 × (m.1 ≡ me.1))
  looks slots id me key turn inside t s r _ at _ = let v : View = me.0 in let sits = r.each_seat id v at in let n : ℕ = get_or s.words (spot R key turn) 0 in
      let all : AllDecided R s.words key turn = t.met s.words sits.stands in let quiet = calm_is_quiet v.stage t.calm in
      let settled = settled_here s r id v (record v { stage = Idle }) at quiet.way refl refl refl (few_adds (length v.adds) (busy v.stage) v.made sits.counted) in
      dite (ℕ_discrete n (code key))
      (λ (hit : n ≡ code key). (
        record v { stage = Reading key turn },
        keeps,
        tt,
        restaged s r (spot R key turn) id me.1 v (Reading key turn) at quiet (reading_is_quiet key turn) record { inside = inside; is = hit; earlier = all },
        (record { row = λ _. refl; on = λ _ ne _. absurd (ne hit); none = λ ne _. absurd (ne hit); settled = settled }, refl),
      ))
      (λ other. dite (ℕ_discrete n 0)
      (λ (free : n ≡ 0). (
        record v { stage = Idle },
        keeps,
        tt,
        restaged s r (spot R key turn) id me.1 v Idle at quiet idle_is_quiet tt,
        (record { row = λ e. absurd (other e); on = λ ne _ _. absurd (ne free); none = λ _ _. (refl, unknown s r id v at key (nowhere R s.words key turn all free)); settled = settled }, refl),
      ))
      (λ taken. let more = more_decided R s.words key turn all (taken, other) in
      dite (dec_le R (turn + 1))
      (λ (last : R ≤ turn + 1). (
        record v { stage = Idle },
        keeps,
        tt,
        restaged s r (spot R key turn) id me.1 v Idle at quiet idle_is_quiet tt,
        (record { row = λ e. absurd (other e); on = λ _ _ l. absurd (let x : ⊥ = omega (arith, l, last) in x); none = λ _ _. (refl, unknown s r id v at key (no_row_left s.words key (turn + 1) more last)); settled = settled }, refl),
      ))
      (λ before. let h = lt_of_not-le before in (
        record v { stage = Looking key (turn + 1) },
        keeps,
        tt,
        restaged s r (spot R key turn) id me.1 v (Looking key (turn + 1)) at quiet (looking_is_quiet key (turn + 1)) (omega arith, more),
        (record { row = λ e. absurd (other e); on = λ _ _ _. refl; none = λ _ x. absurd (⊎_elim taken before x); settled = settled }, refl),
      ))))

  -- a note of a number that is the sum
  tells_number : (views : List View) (key c n : ℕ) → n ≡ sum_by (part key c) views → Tells views (Number key c n)
  tells_number views key c n e key2 c2 = dite (ℕ_discrete key key2)
      (λ (k : key ≡ key2). dite (ℕ_discrete c c2)
      (λ (d : c ≡ c2). subst (λ (x : ℕ × ℕ). noted key2 c2 (Number key c n) ≤ sum_by (part x.0 x.1) views) (λ i. (k i, d i)) (pick_le (nat_eq key key2 && nat_eq c c2) n (sum_by (part key c) views) e))
      (λ ne. none_le (nat_eq key key2) (nat_eq c c2) n (sum_by (part key2 c2) views) (ne_eqb c c2 ne)))
      (λ ne. none_first (nat_eq key key2) (nat_eq c c2) n (sum_by (part key2 c2) views) (ne_eqb key key2 ne))
    where
      pick_le : (b : Bool) (n m : ℕ) → n ≡ m → if_is b n ≤ m
      pick_le true n m e = omega arith
      pick_le false n m e = omega arith

      none_le : (a b : Bool) (n m : ℕ) → b ≡ false → if_is (a && b) n ≤ m
      none_le true b n m e = subst (λ (x : Bool). if_is (true && x) n ≤ m) (sym e) (omega arith)
      none_le false b n m e = omega arith

      none_first : (a b : Bool) (n m : ℕ) → a ≡ false → if_is (a && b) n ≤ m
      none_first a b n m e = subst (λ (x : Bool). if_is (x && b) n ≤ m) (sym e) (omega arith)

  pub reads : (slots id : ℕ) (me : M) (key turn c : ℕ) (next : Stage) → me.0.stage ≡ Reading key turn → c < 4 → IsQuiet next → ((words : List ℕ) → At R words key turn → Stands R words next)
      → Allows (Kept z) slots id me (R + 4 * spot R key turn + c) (λ n. n) (λ n m. Noted z.calls key c next me.0 n m.0 × (m.1 ≡ me.1))
  reads slots id me key turn c next is low quiet stands s r _ at _ = let v : View = me.0 in let sits = r.each_seat id v at in
      let here : At R s.words key turn = subst (Stands R s.words) is sits.stands in let i : ℕ = R + 4 * spot R key turn + c in let n : ℕ = get_or s.words i 0 in
      let all : n ≡ sum_by (part key c) s.views = r.sums key turn c here low in
      let old : IsQuiet v.stage = subst IsQuiet (sym is) (reading_is_quiet key turn) in
      let w : View = record v { notes = v.notes ++ Number key c n ∷ []; stage = next } in (
        w,
        keeps,
        tt,
        unmoved z s r i id me.1 v w at
            record { stands = stands s.words here; adds = sits.adds; counted = quiet_fits (length v.adds) (busy v.stage) (busy next) v.made sits.counted quiet.idle }
            record {
              calls_stay = refl;
              parts = λ key2 c2. quiet_le (added key2 c2 v.adds) (under_way key2 c2 v.stage) (under_way key2 c2 next) (old.way key2 c2);
              rows = λ key2. quiet_le _ (stands_at key2 v.stage) (stands_at key2 next) (old.away key2);
              notes = λ j x e. ⊎_elim (λ (t : get_elem? v.notes j ≡ some x). r.each_note id v at j x t) (λ (t : Number key c n ≡ x). subst (Tells s.views) t (tells_number s.views key c n all)) (at_snoc v.notes (Number key c n) x j e);
            }
            (λ key2 c2. quiet_same (added key2 c2 v.adds) (under_way key2 c2 v.stage) (under_way key2 c2 next) (old.way key2 c2) (quiet.way key2 c2)),
        (record { view = refl; known = at_most_then (knows key c v) (sum_by (part key c) s.views) n (known_within s r id v at key c) (same_le n (sum_by (part key c) s.views) all); sole = λ sole. all ∙ sole_has_all z s r id v at sole key c (old.way key c) }, refl),
      )
    where
      same_le : (a b : ℕ) → a ≡ b → b ≤ a
      same_le a b e = omega arith

  pub settles : (slots id i : ℕ) (me : M) → me.0.stage ≡ Idle → Allows (Kept z) slots id me i (λ n. n) (λ n m. (m ≡ me) × Settled z.calls me.0)
  settles slots id i me rests s r _ at _ = let v : View = me.0 in let sits = r.each_seat id v at in (
    v,
    keeps,
    tt,
    unmoved z s r i id me.1 v v at sits record { calls_stay = refl; parts = λ key c. omega arith; rows = λ key. omega arith; notes = λ j n e. r.each_note id v at j n e } (λ key c. refl),
    (refl, settled_here s r id v v at (λ key c. ap (under_way key c) rests) refl refl refl (few_adds (length v.adds) (busy v.stage) v.made sits.counted)),
  )

  pub looks_at : (slots id : ℕ) (me : M) (i rows' all' key key' turn turn' : ℕ) → turn < R → Seeking R key turn me.0 → i ≡ spot R key turn → rows' ≡ R → all' ≡ z.calls → key' ≡ key → turn' ≡ turn
      → Allows (Kept z) slots id me i (λ n. n) (λ n m. Looked rows' all' key' turn' me.0 n m.0 × (m.1 ≡ me.1))
  looks_at slots id me i rows' all' key key' turn turn' inside t place a d b c = subst (λ (x : ℕ × ℕ × ℕ × ℕ × ℕ). Allows (Kept z) slots id me x.0 (λ n. n) (λ n m. Looked x.1 x.2 x.3 x.4 me.0 n m.0 × (m.1 ≡ me.1)))
      (λ k. (sym place k, sym a k, sym d k, sym b k, sym c k)) (looks slots id me key turn inside t)

  pub reads_at : (slots id : ℕ) (me : M) (i row all' key key' turn c c' : ℕ) (next next' : Stage) → me.0.stage ≡ Reading key turn → c < 4 → IsQuiet next → ((words : List ℕ) → At R words key turn → Stands R words next)
      → row ≡ spot R key turn → i ≡ R + 4 * row + c → all' ≡ z.calls → key' ≡ key → c' ≡ c → next' ≡ next
      → Allows (Kept z) slots id me i (λ n. n) (λ n m. Noted all' key' c' next' me.0 n m.0 × (m.1 ≡ me.1))
  reads_at slots id me i row all' key key' turn c c' next next' is low quiet stands here place f a b d = subst (λ (x : ℕ × ℕ × ℕ × ℕ × Stage). Allows (Kept z) slots id me x.0 (λ n. n) (λ n m. Noted x.1 x.2 x.3 x.4 me.0 n m.0 × (m.1 ≡ me.1)))
      (λ k. (sym (place ∙ ap (λ (p : ℕ). R + 4 * p + c) here) k, sym f k, sym a k, sym b k, sym d k)) (reads slots id me key turn c next is low quiet stands)

  pub settles_at : (slots id i all' : ℕ) (me : M) → me.0.stage ≡ Idle → all' ≡ z.calls → Allows (Kept z) slots id me i (λ n. n) (λ n m. (m ≡ me) × Settled all' me.0)
  settles_at slots id i all' me rests e = subst (λ (x : ℕ). Allows (Kept z) slots id me i (λ n. n) (λ n m. (m ≡ me) × Settled x me.0)) (sym e) (settles slots id i me rests)
