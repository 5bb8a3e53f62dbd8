-- A try for a row keeps the rule.
use Rattle.std.proofs.Common.{◌≡◌, ◌≢◌, ℕ, ◌+◌, ◌≤◌, ◌<◌, List, [], ◌∷◌, ◌++◌, length, get_or, set, Bool, refl, sym, ap, subst, ◌⊎◌, ⊎_elim, arith, length-append, lt_of_not-le, eq-eqb, ne_eqb, eqb}
use mathlib.Core.Option.{some}
use mathlib.Core.Logic.{dite}
use native.Mathlib.Decide.{dec_le, ℕ_discrete}
use lib.ListN.{get_elem?}
use Rattle.atomic_table.specs.Table.{State, Me, keeps, stepped, Allows}
use prog.Atomic.{either}
use Rattle.atomic_table.proofs.Lists.{at_snoc}
use Rattle.total_rows.specs.declared.plan.Plan.{Plan}
use Rattle.total_rows.specs.declared.plan.Job.{Job}
use Rattle.total_rows.specs.declared.plan.Addition.{Addition}
use Rattle.total_rows.specs.declared.plan.Note.{Note}
use Rattle.total_rows.specs.declared.plan.View.{View}
use Rattle.total_rows.specs.declared.plan.Stage.{Stage}
use Rattle.total_rows.specs.declared.plan.Stage.TheVariants.{Idle, Probing, Row}
use Rattle.total_rows.specs.Rows.{code, spot, AllDecided, At}
use Rattle.total_rows.specs.Sums.{added, under_way, part, landings, stands_at}
use Rattle.total_rows.specs.Rule.{busy, IsJob, IsAdd, Tells, Kept}
use Rattle.total_rows.specs.Plays.{begun, Tried, Trying, Peeked, missed}
use Rattle.total_rows.proofs.Keeps.{Begins, Onward, claimed, claims, begins, unmoved, same_part, busy_fits, missed_fits, missed_part, too_far, same_le, more_uses, missed_uses, has_one, added_snoc, landings-snoc}
use Rattle.total_rows.proofs.Counts.{full_here, free_here, own_here}
use Rattle.total_rows.proofs.Lookups.{settled_here, few_adds}
use Rattle.total_rows.proofs.Spots.{place_below, add_stays, more_decided}

abbrev U : Type 0
U = Unit {0}

module _ (z : Plan) where
  abbrev St : Type 0
  St = State U View

  abbrev M : Type 0
  M = Me U View

  abbrev R : ℕ
  R = z.rows

  full_adds : (s : St) (l : List Addition) (j : Job) → IsJob j → AllDecided R s.words j.key R → ((i : ℕ) (a : Addition) → get_elem? l i ≡ some a → IsAdd R s.words a a.landed) → (i : ℕ) (a : Addition) → get_elem? (l ++ missed j ∷ []) i ≡ some a → IsAdd R s.words a a.landed
  full_adds s l j ok all old i a e = ⊎_elim (λ (t : get_elem? l i ≡ some a). old i a t) (λ (t : missed j ≡ a). subst (λ (y : Addition). IsAdd R s.words y y.landed) t (ok, all)) (at_snoc l (missed j) a i e)

  -- a seat that goes on with its job
  record Goes (s : St) (v : View) : Type 0 where
    pub start : Begins z v v.stage
    pub parts : (st : Stage) → ((key c : ℕ) → under_way key c st ≡ 0) → (key c : ℕ) → part key c (record (begun v v.stage) { stage = st }) ≡ part key c v
    pub held : (st : Stage) → busy st ≡ 1 → length (begun v v.stage).adds + busy st ≤ (begun v v.stage).made
    pub onward : (st : Stage) → ((key c : ℕ) → under_way key c st ≡ 0) → Onward s.views v (record (begun v v.stage) { stage = st })
    pub adds : (i : ℕ) (a : Addition) → get_elem? (begun v v.stage).adds i ≡ some a → IsAdd R s.words a a.landed
    pub told : (i : ℕ) (x : Note) → get_elem? (begun v v.stage).notes i ≡ some x → Tells s.views x

  goes : (s : St) (r : Kept z s) (id : ℕ) (v : View) → get_elem? s.views id ≡ some v → (j : Job) (turn : ℕ) → Trying R j.key turn v → Goes s v
  goes s r id v at j turn t = let sits = r.each_seat id v at in let b = begins z v v.stage sits.counted t.has_left t.no_row t.no_half t.no_look t.no_read in let v' : View = begun v v.stage in
      let told : (i : ℕ) (x : Note) → get_elem? v'.notes i ≡ some x → Tells s.views x = subst (λ (l : List Note). (i : ℕ) (x : Note) → get_elem? l i ≡ some x → Tells s.views x) (sym b.notes) (r.each_note id v at) in
      let parts : (st : Stage) → ((key c : ℕ) → under_way key c st ≡ 0) → (key c : ℕ) → part key c (record v' { stage = st }) ≡ part key c v = λ st quiet key c.
      same_part (added key c v'.adds) (added key c v.adds) (under_way key c st) (under_way key c v.stage) (ap (added key c) b.adds) (quiet key c) (b.quiet key c) in
      record {
        start = b;
        parts = parts;
        held = λ st one. busy_fits (length v'.adds) (length v.adds) (busy st) v'.made (ap length b.adds) one b.counts;
        onward = λ st quiet. record {
          calls_stay = b.still;
          parts = λ key c. same_le (part key c v) (part key c (record v' { stage = st })) (parts st quiet key c);
          rows = λ key. more_uses (landings key v.adds) (landings key v'.adds) (stands_at key v.stage) (stands_at key st) (ap (landings key) b.adds) (b.away key);
          notes = told;
        };
        adds = subst (λ (l : List Addition). (i : ℕ) (a : Addition) → get_elem? l i ≡ some a → IsAdd R s.words a a.landed) (sym b.adds) sits.adds;
        told = told;
      }

  -- what a row that some key has tells
  meets : (s : St) (r : Kept z s) (id : ℕ) (me : M) → get_elem? s.views id ≡ some me.0 → (j : Job) (turn : ℕ) → IsJob j → turn < R → Trying R j.key turn me.0 → get_or s.words (spot R j.key turn) 0 ≢ 0
      → (w : View) × (Kept z (stepped s (spot R j.key turn) (get_or s.words (spot R j.key turn) 0) id me.1 w keeps) × Tried R z.calls j turn me.0 (get_or s.words (spot R j.key turn) 0) w)
  meets s r id me at j turn ok inside t taken = let v : View = me.0 in let g = goes s r id v at j turn t in let b = g.start in
      let p : ℕ = spot R j.key turn in let n : ℕ = get_or s.words p 0 in let all : AllDecided R s.words j.key turn = t.met s.words (r.each_seat id v at).stands in let v' : View = begun v v.stage in
      let settled = settled_here z s r id v (record v' { stage = Idle }) at b.quiet b.still b.adds b.notes (few_adds (length v.adds) 1 v'.made b.counts) in
      dite (ℕ_discrete n (code j.key))
      (λ (hit : n ≡ code j.key). let here : At R s.words j.key turn = record { inside = inside; is = hit; earlier = all } in (
        record v' { stage = Row j turn },
        (
          unmoved z s r p id me.1 v (record v' { stage = Row j turn }) at record { stands = (ok, here); adds = g.adds; counted = g.held (Row j turn) refl } (g.onward (Row j turn) (λ key c. refl)) (g.parts (Row j turn) (λ key c. refl)),
          record {
            row = λ _. refl;
            on = λ _ e _. absurd (e hit);
            full = λ _ e _. absurd (e hit);
            lands = λ sole _. own_here z s r id v at sole b.away j.key turn here;
            misses = λ _ _ e _. absurd (e hit);
            settled = settled;
          },
        ),
      ))
      (λ other. let more = more_decided R s.words j.key turn all (taken, other) in let neither : (n ≡ 0) ⊎ (n ≡ code j.key) → ⊥ = λ x. ⊎_elim taken other x in
      dite (dec_le R (turn + 1))
      (λ (last : R ≤ turn + 1). let w : View = record v' { stage = Idle; adds = v'.adds ++ missed j ∷ [] } in let e : turn + 1 ≡ R = omega arith in (
        w,
        (
          unmoved z s r p id me.1 v w at record { stands = tt; adds = full_adds s v'.adds j ok (subst (AllDecided R s.words j.key) e more) g.adds; counted = missed_fits (length (v'.adds ++ missed j ∷ [])) (length v'.adds) (length v.adds) v'.made (length-append v'.adds (missed j ∷ [])) (ap length b.adds) b.counts } record {
            calls_stay = b.still;
            parts = λ key c. same_le (part key c v) (part key c w) (missed_part (added key c (v'.adds ++ missed j ∷ [])) (added key c v'.adds) (added key c v.adds) (under_way key c v.stage) (added_snoc key c v'.adds (missed j)) (ap (added key c) b.adds) (b.quiet key c));
            rows = λ key. missed_uses (landings key (v'.adds ++ missed j ∷ [])) (landings key v'.adds) (landings key v.adds) (stands_at key v.stage) (landings-snoc key v'.adds (missed j)) (ap (landings key) b.adds) (b.away key);
            notes = g.told;
          }
              (λ key c. missed_part (added key c (v'.adds ++ missed j ∷ [])) (added key c v'.adds) (added key c v.adds) (under_way key c v.stage) (added_snoc key c v'.adds (missed j)) (ap (added key c) b.adds) (b.quiet key c)),
          record {
            row = λ x. absurd (neither x);
            on = λ _ _ l. absurd (too_far R turn l last);
            full = λ _ _ _. ap (λ (l : List Addition). record v' { stage = Idle; adds = l ++ missed j ∷ [] }) b.adds;
            lands = λ _ x. absurd (neither x);
            misses = λ sole _ _ _. full_here z s r id v at sole b.away j.key (subst (AllDecided R s.words j.key) e more);
            settled = settled;
          },
        ),
      ))
      (λ before. let h = lt_of_not-le before in (
        record v' { stage = Probing j (turn + 1) },
        (
          unmoved z s r p id me.1 v (record v' { stage = Probing j (turn + 1) }) at record { stands = (ok, (omega arith, more)); adds = g.adds; counted = g.held (Probing j (turn + 1)) refl } (g.onward (Probing j (turn + 1)) (λ key c. refl)) (g.parts (Probing j (turn + 1)) (λ key c. refl)),
          record {
            row = λ x. absurd (neither x);
            on = λ _ _ _. refl;
            full = λ _ _ l. absurd (before l);
            lands = λ _ x. absurd (neither x);
            misses = λ _ _ _ l. absurd (before l);
            settled = settled;
          },
        ),
      )))

  pub tries : (slots id : ℕ) (me : M) (j : Job) (turn : ℕ) → IsJob j → turn < R → Trying R j.key turn me.0
      → Allows (Kept z) slots id me (spot R j.key turn) (λ n. either (eqb n 0) (code j.key) n) (λ n m. Tried R z.calls j turn me.0 n m.0 × (m.1 ≡ me.1))
  tries slots id me j turn ok inside t s r _ at _ = let v : View = me.0 in let p : ℕ = spot R j.key turn in let n : ℕ = get_or s.words p 0 in
      dite (ℕ_discrete n 0)
      (λ (free : n ≡ 0). let g = goes s r id v at j turn t in let b = g.start in let v' : View = begun v v.stage in let w : View = record v' { stage = Row j turn } in
      let all : AllDecided R s.words j.key turn = t.met s.words (r.each_seat id v at).stands in let c = claimed z s r j.key turn inside all free in
      let later : List ℕ = set s.words p (code j.key) in (
        w,
        keeps,
        tt,
        subst (λ (x : Bool). Kept z (stepped s p (either x (code j.key) n) id me.1 w keeps)) (sym (eq-eqb n 0 free))
            (claims z s r id me.1 v w j.key turn at inside all free record { stands = (ok, c.1); adds = λ i a e. add_stays R s.words later c.0 a a.landed (g.adds i a e); counted = g.held (Row j turn) refl } (g.onward (Row j turn) (λ key c. refl)) (has_one (landings j.key v'.adds) j.key) (g.parts (Row j turn) (λ key c. refl))),
        (
          record {
            row = λ _. refl;
            on = λ e _ _. absurd (e free);
            full = λ e _ _. absurd (e free);
            lands = λ sole _. free_here z s r id v at sole b.away j.key p (place_below (code j.key) turn R inside) free;
            misses = λ _ e _ _. absurd (e free);
            settled = settled_here z s r id v (record v' { stage = Idle }) at b.quiet b.still b.adds b.notes (few_adds (length v.adds) 1 v'.made b.counts);
          },
          refl,
        ),
      ))
      (λ taken. let m = meets s r id me at j turn ok inside t taken in (
        m.0,
        keeps,
        tt,
        subst (λ (x : Bool). Kept z (stepped s p (either x (code j.key) n) id me.1 m.0 keeps)) (sym (ne_eqb n 0 taken)) m.1.0,
        (m.1.1, refl),
      ))

  pub peeks : (slots id : ℕ) (me : M) (j : Job) (turn : ℕ) → IsJob j → turn < R → Trying R j.key turn me.0
      → Allows (Kept z) slots id me (spot R j.key turn) (λ n. n) (λ n m. Peeked R z.calls j turn me.0 n m.0 × (m.1 ≡ me.1))
  peeks slots id me j turn ok inside t s r _ at _ = let v : View = me.0 in let p : ℕ = spot R j.key turn in let n : ℕ = get_or s.words p 0 in
      dite (ℕ_discrete n 0)
      (λ (free : n ≡ 0). (
        v,
        keeps,
        tt,
        unmoved z s r p id me.1 v v at (r.each_seat id v at) record { calls_stay = refl; parts = λ key c. omega arith; rows = λ key. omega arith; notes = λ i x e. r.each_note id v at i x e } (λ key c. refl),
        (record { free = λ _. refl; taken = λ e. absurd (e free) }, refl),
      ))
      (λ taken. let m = meets s r id me at j turn ok inside t taken in (
        m.0,
        keeps,
        tt,
        m.1.0,
        (record { free = λ e. absurd (taken e); taken = λ _. m.1.1 }, refl),
      ))

  pub tries_at : (slots id : ℕ) (me : M) (i n : ℕ) (rows' all' : ℕ) (j j' : Job) (turn turn' : ℕ) → IsJob j → turn < R → Trying R j.key turn me.0 → i ≡ spot R j.key turn → n ≡ code j.key → rows' ≡ R → all' ≡ z.calls → j' ≡ j → turn' ≡ turn
      → Allows (Kept z) slots id me i (λ m. either (eqb m 0) n m) (λ m w. Tried rows' all' j' turn' me.0 m w.0 × (w.1 ≡ me.1))
  tries_at slots id me i n rows' all' j j' turn turn' ok inside t place word a d b c = subst (λ (x : ℕ × ℕ × ℕ × ℕ × Job × ℕ). Allows (Kept z) slots id me x.0 (λ m. either (eqb m 0) x.1 m) (λ m w. Tried x.2 x.3 x.4 x.5 me.0 m w.0 × (w.1 ≡ me.1)))
      (λ k. (sym place k, sym word k, sym a k, sym d k, sym b k, sym c k)) (tries slots id me j turn ok inside t)

  pub peeks_at : (slots id : ℕ) (me : M) (i : ℕ) (rows' all' : ℕ) (j j' : Job) (turn turn' : ℕ) → IsJob j → turn < R → Trying R j.key turn me.0 → i ≡ spot R j.key turn → rows' ≡ R → all' ≡ z.calls → j' ≡ j → turn' ≡ turn
      → Allows (Kept z) slots id me i (λ m. m) (λ m w. Peeked rows' all' j' turn' me.0 m w.0 × (w.1 ≡ me.1))
  peeks_at slots id me i rows' all' j j' turn turn' ok inside t place a d b c = subst (λ (x : ℕ × ℕ × ℕ × Job × ℕ). Allows (Kept z) slots id me x.0 (λ m. m) (λ m w. Peeked x.1 x.2 x.3 x.4 me.0 m w.0 × (w.1 ≡ me.1)))
      (λ k. (sym place k, sym a k, sym d k, sym b k, sym c k)) (peeks slots id me j turn ok inside t)
