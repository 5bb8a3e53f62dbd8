-- For a seat that has all calls of the table: the rows are those of its landed adds, so they are full exactly where as many different keys landed.
use Rattle.std.proofs.Common.{◌≡◌, ◌≢◌, ℕ, suc, ◌+◌, ◌≤◌, ◌<◌, Bool, true, false, ◌||◌, ◌&&◌, nat_eq, cond, List, [], ◌∷◌, length, get_or, map, take, set, sum_by, refl, sym, ap, ◌∙◌, subst, arith, eq-eqb, ne_eqb, true≢false}
use Rattle.std.proofs.lemmas.List.{get_or-take, length-take-le}
use mathlib.Core.Logic.{dite}
use mathlib.Core.Option.{some, some-ne-none}
use native.Mathlib.Decide.{ℕ_discrete}
use lib.ListN.{get_elem?}
use Rattle.atomic_table.specs.Table.{State}
use Rattle.row_probe.proofs.Turns.{place-surjective}
use Rattle.total_rows.specs.declared.plan.Plan.{Plan}
use Rattle.total_rows.specs.declared.plan.Addition.{Addition}
use Rattle.total_rows.specs.declared.plan.View.{View}
use Rattle.total_rows.specs.declared.plan.Stage.{Stage}
use Rattle.total_rows.specs.declared.plan.Stage.TheVariants.{Idle, Probing, Row, Half, Looking, Reading}
use Rattle.total_rows.specs.Rows.{code, spot, AllDecided, At}
use Rattle.total_rows.specs.Sums.{if_is, landings, stands_at, uses}
use Rattle.total_rows.specs.Rule.{busy, calls, IsAdd, Sits, Kept}
use Rattle.total_rows.specs.Shown.{shown}
use Rattle.acct_base.specs.declared.charge.Landed.{Landed}
use Rattle.acct_base.specs.declared.charge.Landed.TheVariants.{Row as InRow, Full}
use Rattle.acct_base.specs.Distinct.{mem, distinct}
use Rattle.acct_base.specs.Landings.{is_row, add_lands}
use Rattle.acct_base.proofs.DistinctLemmas.{distinct_is, distinct_at_most}
use Rattle.acct_base.proofs.Members.{or_right, mem_at, at_mem, no_twice, nonzero, nonzero_mem, nonzero_short, nonzero_once}
use Rattle.total_rows.proofs.Spots.{place_below, same_code, at_once, sum_moved, in_sum, zero_sum}
use Rattle.total_rows.proofs.LandingLemmas.{keys_landed, own_lands, free_lands, full_misses}
use Rattle.total_rows.proofs.Keeps.{nobody, no_calls, seats_stay}

abbrev U : Type 0
U = Unit {0}

-- the words of the keys that landed
abbrev landed_codes : List Addition → List ℕ
landed_codes [] = []
landed_codes (a ∷ rest) = cond (is_row a.landed) (code a.job.key ∷ landed_codes rest) (landed_codes rest)

same_test : (a b : ℕ) → nat_eq (code a) (code b) ≡ nat_eq a b
same_test a b = dite (ℕ_discrete a b) (λ (e : a ≡ b). eq-eqb (code a) (code b) (ap code e) ∙ sym (eq-eqb a b e)) (λ ne. ne_eqb (code a) (code b) (λ e. ne (same_code a b e)) ∙ sym (ne_eqb a b ne))

code_mem : (key : ℕ) (l : List Addition) → mem (code key) (landed_codes l) ≡ mem key (keys_landed l)
code_mem key [] = refl
code_mem key (a ∷ l) = code_mem_step (code_mem key l) (is_row a.landed)
  where
    code_mem_step : mem (code key) (landed_codes l) ≡ mem key (keys_landed l) → (b : Bool) → mem (code key) (cond b (code a.job.key ∷ landed_codes l) (landed_codes l)) ≡ mem key (cond b (a.job.key ∷ keys_landed l) (keys_landed l))
    code_mem_step rest true = λ i. same_test a.job.key key i || rest i
    code_mem_step rest false = rest

code_distinct : (l : List Addition) → distinct (landed_codes l) ≡ distinct (keys_landed l)
code_distinct [] = refl
code_distinct (a ∷ l) = code_distinct_step (code_distinct l) (is_row a.landed)
  where
    code_distinct_step : distinct (landed_codes l) ≡ distinct (keys_landed l) → (b : Bool) → distinct (cond b (code a.job.key ∷ landed_codes l) (landed_codes l)) ≡ distinct (cond b (a.job.key ∷ keys_landed l) (keys_landed l))
    code_distinct_step rest true = λ i. cond (code_mem a.job.key l i) 0 1 + rest i
    code_distinct_step rest false = rest

-- a code that landed is one of a key that landed
code_of : (x : ℕ) (l : List Addition) → mem x (landed_codes l) ≡ true → (key : ℕ) × ((code key ≡ x) × (mem key (keys_landed l) ≡ true))
code_of x [] h = absurd (true≢false (sym h))
code_of x (a ∷ l) h = code_of_step (code_of x l) (is_row a.landed) h
  where
    code_of_step : (mem x (landed_codes l) ≡ true → (key : ℕ) × ((code key ≡ x) × (mem key (keys_landed l) ≡ true))) → (b : Bool) → mem x (cond b (code a.job.key ∷ landed_codes l) (landed_codes l)) ≡ true → (key : ℕ) × ((code key ≡ x) × (mem key (cond b (a.job.key ∷ keys_landed l) (keys_landed l)) ≡ true))
    code_of_step rest true g = dite (ℕ_discrete (code a.job.key) x)
        (λ (e : code a.job.key ≡ x). (a.job.key, (e, ap (λ (b : Bool). b || mem a.job.key (keys_landed l)) (eq-eqb a.job.key a.job.key refl))))
        (λ ne. let t = rest (sym (ap (λ (b : Bool). b || mem x (landed_codes l)) (ne_eqb (code a.job.key) x ne)) ∙ g) in (t.0, (t.1.0, or_right (nat_eq a.job.key t.0) (mem t.0 (keys_landed l)) t.1.1)))
    code_of_step rest false g = rest g

no_more : (n : ℕ) → 0 < 0 + n → 0 < n
no_more n h = omega (arith, h)

-- a key that landed is in the list, and the other way round
landed_mem : (key : ℕ) (l : List Addition) → 0 < landings key l → mem key (keys_landed l) ≡ true
landed_mem key [] h = absurd (omega (arith, h))
landed_mem key (a ∷ l) h = landed_mem_step (landed_mem key l) (is_row a.landed) h
  where
    landed_mem_step : (0 < landings key l → mem key (keys_landed l) ≡ true) → (b : Bool) → 0 < if_is (b && nat_eq a.job.key key) 1 + landings key l → mem key (cond b (a.job.key ∷ keys_landed l) (keys_landed l)) ≡ true
    landed_mem_step rest true g = dite (ℕ_discrete a.job.key key)
        (λ (e : a.job.key ≡ key). ap (λ (b : Bool). b || mem key (keys_landed l)) (eq-eqb a.job.key key e))
        (λ ne. or_right (nat_eq a.job.key key) (mem key (keys_landed l)) (rest (no_more (landings key l) (subst (λ (b : Bool). 0 < if_is b 1 + landings key l) (ne_eqb a.job.key key ne) g))))
    landed_mem_step rest false g = rest (no_more (landings key l) g)

landed_at : (rows : ℕ) (words : List ℕ) (key : ℕ) (l : List Addition) → ((i : ℕ) (a : Addition) → get_elem? l i ≡ some a → IsAdd rows words a a.landed) → mem key (keys_landed l) ≡ true → (turn : ℕ) × At rows words key turn
landed_at rows words key [] h m = absurd (true≢false (sym m))
landed_at rows words key (a ∷ l) h m = landed_at_step (landed_at rows words key l (λ i x f. h (suc i) x f)) a.landed (h 0 a refl) m
  where
    landed_at_step : (mem key (keys_landed l) ≡ true → (turn : ℕ) × At rows words key turn) → (b : Landed) → IsAdd rows words a b → mem key (cond (is_row b) (a.job.key ∷ keys_landed l) (keys_landed l)) ≡ true → (turn : ℕ) × At rows words key turn
    landed_at_step rest (InRow row) g m = dite (ℕ_discrete a.job.key key)
        (λ (e : a.job.key ≡ key). (g.1.0, subst (λ (k : ℕ). At rows words k g.1.0) e g.1.1))
        (λ ne. rest (sym (ap (λ (b : Bool). b || mem key (keys_landed l)) (ne_eqb a.job.key key ne)) ∙ m))
    landed_at_step rest Full g m = rest m

landings_below : (key : ℕ) (l : List Addition) → landings key l ≤ length l
landings_below key [] = omega arith
landings_below key (a ∷ l) = let h = landings_below key l in let one : if_is (is_row a.landed && nat_eq a.job.key key) 1 ≤ 1 = at_most_one (is_row a.landed && nat_eq a.job.key key) in omega (arith, h, one)
  where
    at_most_one : (b : Bool) → if_is b 1 ≤ 1
    at_most_one true = omega arith
    at_most_one false = omega arith

stands_below : (key : ℕ) (st : Stage) → stands_at key st ≤ busy st
stands_below key Idle = omega arith
stands_below key (Probing j t) = omega arith
stands_below key (Looking k t) = omega arith
stands_below key (Reading k t) = omega arith
stands_below key (Row j t) = flag_below (nat_eq j.key key)
  where
    flag_below : (b : Bool) → if_is b 1 ≤ 1
    flag_below true = omega arith
    flag_below false = omega arith
stands_below key (Half j t) = flag_below (nat_eq j.key key)
  where
    flag_below : (b : Bool) → if_is b 1 ≤ 1
    flag_below true = omega arith
    flag_below false = omega arith

uses_below : (a u n b m left : ℕ) → a ≤ n → u ≤ b → n + b ≤ m → a + u ≤ left + m
uses_below a u n b m left h i k = omega (arith, h, i, k)

none_of : (u c t : ℕ) → u ≤ c → c ≤ t → t ≡ 0 → u ≡ 0
none_of u c t h i e = omega (arith, h, i, e)

his_own : (all rest a u : ℕ) → rest + (a + u) ≡ all + 0 → rest ≡ 0 → u ≡ 0 → 0 < all → 0 < a
his_own all rest a u e f g h = omega (arith, e, f, g, h)

module _ (z : Plan) (s : State U View) (r : Kept z s) (id : ℕ) (v : View) (at : get_elem? s.views id ≡ some v) (sole : calls v ≡ z.calls) (away : (key : ℕ) → stands_at key v.stage ≡ 0) where
  abbrev R : ℕ
  R = z.rows

  -- a row is that of one of the seat's landed adds
  pub row_landed : (key turn : ℕ) → At R s.words key turn → mem key (keys_landed v.adds) ≡ true
  row_landed key turn a = let vs : List View = set s.views id nobody in
      let none : sum_by calls vs ≡ 0 = no_calls (sum_by calls vs) (calls v) (sum_by calls s.views) z.calls (sum_moved calls s.views id v nobody at) sole r.budget in
      let sit : (i : ℕ) (x : View) → get_elem? vs i ≡ some x → Sits R s.words x = seats_stay (Sits R s.words) s.views id nobody record { stands = tt; adds = λ i a e. absurd (some-ne-none a (sym e)); counted = omega arith } r.each_seat in
      let empty : sum_by (uses key) vs ≡ 0 = zero_sum (uses key) vs (λ i x e. none_of (uses key x) (calls x) (sum_by calls vs)
      (uses_below (landings key x.adds) (stands_at key x.stage) (length x.adds) (busy x.stage) x.made x.left (landings_below key x.adds) (stands_below key x.stage) (sit i x e).counted) (in_sum calls vs i x e) none) in
      landed_mem key v.adds (his_own (sum_by (uses key) s.views) (sum_by (uses key) vs) (landings key v.adds) (stands_at key v.stage) (sum_moved (uses key) s.views id v nobody at) empty (away key) (r.used key turn a))

  -- and each of its landed adds has its row
  pub landed_row : (key : ℕ) → mem key (keys_landed v.adds) ≡ true → (turn : ℕ) × At R s.words key turn
  landed_row key m = landed_at R s.words key v.adds (r.each_seat id v at).adds m

  abbrev keys_of : List ℕ
  keys_of = take R s.words

  keys_long : length keys_of ≡ R
  keys_long = length-take-le R s.words (let w = r.wide in omega (arith, w))

  keys_at : (i : ℕ) → i < R → get_or keys_of i 0 ≡ get_or s.words i 0
  keys_at i h = get_or-take R s.words i 0 h

  -- two rows have different keys
  pub apart : (i j : ℕ) → i < j → j < R → get_or s.words i 0 ≢ 0 → get_or s.words i 0 ≡ get_or s.words j 0 → ⊥
  apart i j less inside taken same = let a = r.owned i (omega arith) taken in let b = r.owned j inside (λ e. taken (same ∙ e)) in
      let word_a : get_or s.words i 0 ≡ code a.key = sym (ap (λ (p : ℕ). get_or s.words p 0) a.here) ∙ (a.at).is in
      let word_b : get_or s.words j 0 ≡ code b.key = sym (ap (λ (p : ℕ). get_or s.words p 0) b.here) ∙ (b.at).is in
      let k : a.key ≡ b.key = same_code a.key b.key (sym word_a ∙ (same ∙ word_b)) in
      let t : a.turn ≡ b.turn = at_once R s.words b.key a.turn b.turn (subst (λ (x : ℕ). At R s.words x a.turn) k a.at) b.at in
      let p : spot R a.key a.turn ≡ spot R b.key b.turn = λ q. spot R (k q) (t q) in
      let e : i ≡ j = sym a.here ∙ (p ∙ b.here) in omega (arith, less, e)

  -- a landed key's word stands among the rows
  into_rows : (x : ℕ) → mem x (landed_codes v.adds) ≡ true → (i : ℕ) × ((i < R) × ((get_or s.words i 0 ≡ x) × (x ≢ 0)))
  into_rows x m = let c = code_of x v.adds m in let t = landed_row c.0 c.1.1 in
      (spot R c.0 t.0, (place_below (code c.0) t.0 R (t.1).inside, ((t.1).is ∙ c.1.0, λ e. let q : code c.0 ≡ 0 = c.1.0 ∙ e in omega (arith, q))))

  -- a row's word is a landed key's
  out_of_rows : (i : ℕ) → i < R → get_or s.words i 0 ≢ 0 → mem (get_or s.words i 0) (landed_codes v.adds) ≡ true
  out_of_rows i inside taken = let a = r.owned i inside taken in
      let word_a : code a.key ≡ get_or s.words i 0 = sym (a.at).is ∙ ap (λ (p : ℕ). get_or s.words p 0) a.here in
      subst (λ (x : ℕ). mem x (landed_codes v.adds) ≡ true) word_a (code_mem a.key v.adds ∙ row_landed a.key a.turn a.at)

  pub all_taken : ((i : ℕ) → i < R → get_or s.words i 0 ≢ 0) → distinct (keys_landed v.adds) ≡ R
  all_taken taken = let n = keys_long in sym (code_distinct v.adds) ∙ (distinct_is keys_of (landed_codes v.adds)
      (no_twice keys_of (λ i j less inside e. let k : j < R = omega (arith, inside, n) in let i_in : i < R = omega (arith, k, less) in apart i j less k (taken i i_in) (sym (keys_at i i_in) ∙ (e ∙ keys_at j k))))
      (λ x m. let t = into_rows x m in let inside = t.1.0 in subst (λ (w : ℕ). mem w keys_of ≡ true) (keys_at t.0 t.1.0 ∙ t.1.1.0) (mem_at keys_of t.0 (omega (arith, inside, n))))
      (λ x m. let t = at_mem keys_of x m in let inside = t.1.0 in let i_in : t.0 < R = omega (arith, inside, n) in
      subst (λ (w : ℕ). mem w (landed_codes v.adds) ≡ true) (sym (keys_at t.0 i_in) ∙ t.1.1) (out_of_rows t.0 i_in (taken t.0 i_in)))
      ∙ n)

  pub some_free : (i : ℕ) → i < R → get_or s.words i 0 ≡ 0 → distinct (keys_landed v.adds) < R
  some_free i inside free = let n = keys_long in
      let most : distinct (landed_codes v.adds) ≤ length (nonzero keys_of) = distinct_at_most (nonzero keys_of) (landed_codes v.adds)
      (nonzero_once keys_of (λ i j less h ne e. let k : j < R = omega (arith, h, n) in let i_in : i < R = omega (arith, k, less) in apart i j less k (λ f. ne (keys_at i i_in ∙ f)) (sym (keys_at i i_in) ∙ (e ∙ keys_at j k))))
      (λ x m. let t = into_rows x m in let k = t.1.0 in nonzero_mem keys_of x t.1.1.1 (subst (λ (w : ℕ). mem w keys_of ≡ true) (keys_at t.0 t.1.0 ∙ t.1.1.0) (mem_at keys_of t.0 (omega (arith, k, n))))) in
      let zero_in : mem 0 keys_of ≡ true = subst (λ (w : ℕ). mem w keys_of ≡ true) (keys_at i inside ∙ free) (mem_at keys_of i (omega (arith, inside, n))) in
      let short = nonzero_short keys_of zero_in in let same = code_distinct v.adds in omega (arith, most, short, n, same)

  -- every row belongs to another key
  pub full_here : (key : ℕ) → AllDecided R s.words key R → add_lands R (map shown v.adds) key ≡ false
  full_here key all = full_misses R key v.adds
      (all_taken (λ i h. let t = place-surjective (code key) 1 i R h in subst (λ (p : ℕ). get_or s.words p 0 ≢ 0) t.2 (all t.0 t.1).0))
      (not_there (mem key (keys_landed v.adds)) (λ m. let t = landed_row key m in (all t.0 (t.1).inside).1 (t.1).is))
    where
      not_there : (b : Bool) → (b ≡ true → ⊥) → b ≡ false
      not_there true h = absurd (h refl)
      not_there false h = refl

  -- a row is free, or the key's own
  pub free_here : (key i : ℕ) → i < R → get_or s.words i 0 ≡ 0 → add_lands R (map shown v.adds) key ≡ true
  free_here key i inside free = free_lands R key v.adds (some_free i inside free)

  pub own_here : (key turn : ℕ) → At R s.words key turn → add_lands R (map shown v.adds) key ≡ true
  own_here key turn a = own_lands R key v.adds (row_landed key turn a)
