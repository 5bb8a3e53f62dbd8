-- Each step of an add keeps the rule.
use Rattle.std.proofs.Common.{◌≡◌, ◌≢◌, ℕ, suc, ◌+◌, ◌*◌, ◌%◌, ◌^◌, ◌≤◌, ◌<◌, List, [], ◌∷◌, ◌++◌, length, get_or, set, Bool, true, false, ◌&&◌, nat_eq, sum_by, refl, sym, ap, ◌∙◌, subst, ⊎_elim, arith, length-append, length-set, get_or-set_other, get_or-set_same, eq-eqb, ne_eqb}
use mathlib.Core.Option.{some, some-ne-none}
use mathlib.Core.Logic.{dite}
use native.Mathlib.Decide.{ℕ_discrete}
use lib.ListN.{get_elem?}
use Rattle.std.proofs.Math.Nat.{mod-eq_of_lt}
use lib.Seq.{set-get_or}
use Rattle.atomic_table.specs.Table.{State, Me, keeps, stepped, Allows}
use Rattle.atomic_table.proofs.Lists.{at_set, at_snoc, set_here}
use Rattle.total_rows.specs.declared.plan.Plan.{Plan}
use Rattle.total_rows.specs.declared.plan.Job.{Job}
use Rattle.total_rows.specs.declared.plan.Addition.{Addition}
use Rattle.total_rows.specs.declared.plan.Note.{Note}
use Rattle.total_rows.specs.declared.plan.View.{View}
use Rattle.total_rows.specs.declared.plan.Stage.{Stage}
use Rattle.total_rows.specs.declared.plan.Stage.TheVariants.{Idle, Probing, Row, Half, Looking, Reading}
use Rattle.total_rows.specs.Rows.{code, spot, AllDecided, At, Owned}
use Rattle.acct_base.specs.declared.charge.Landed.{Landed}
use Rattle.acct_base.specs.declared.charge.Landed.TheVariants.{Row as InRow, Full}
use Rattle.acct_base.specs.Landings.{is_row}
use Rattle.acct_base.specs.declared.packet.Dir.{Dir}
use Rattle.acct_base.specs.declared.packet.Dir.TheVariants.{Ingress, Egress}
use Rattle.total_rows.specs.Sums.{side, if_is, packets_in, bytes_in, added, under_way, part, landings, stands_at, uses, noted}
use Rattle.total_rows.specs.Rule.{busy, calls, IsJob, Stands, IsAdd, Sits, Tells, Kept}
use Rattle.total_rows.specs.Plays.{begun, landed}
use Rattle.total_rows.specs.Seats.{IsOneToOne}
use Rattle.total_rows.specs.Shown.{places_of}
use Rattle.total_rows.proofs.LandingLemmas.{one_to_one}
use Rattle.total_rows.proofs.Spots.{place_below, Stays, all_stay, at_stays, owned_stays, sits_on, owner_is, at_once, nowhere, same_code, sum_moved, in_sum, sum_below, zero_sum, read_at}

abbrev U : Type 0
U = Unit {0}

pub added_snoc : (key c : ℕ) (l : List Addition) (a : Addition) → added key c (l ++ a ∷ []) ≡ added key c l + if_is (is_row a.landed && nat_eq a.job.key key) (packets_in a.job c + bytes_in a.job c)
added_snoc key c [] a = omega arith
added_snoc key c (x ∷ xs) a = let h = added_snoc key c xs a in omega arith

side_low : (d : Dir) → 2 * side d < 4
side_low Ingress = omega arith
side_low Egress = omega arith

side_next : (d : Dir) → 2 * side d + 1 < 4
side_next Ingress = omega arith
side_next Egress = omega arith

pub landings-snoc : (key : ℕ) (l : List Addition) (a : Addition) → landings key (l ++ a ∷ []) ≡ landings key l + if_is (is_row a.landed && nat_eq a.job.key key) 1
landings-snoc key [] a = omega arith
landings-snoc key (x ∷ xs) a = let h = landings-snoc key xs a in omega arith

if_more : (b : Bool) (n k : ℕ) → if_is b n ≤ if_is b (n + k)
if_more true n k = omega arith
if_more false n k = omega arith

if_below : (b : Bool) (n m : ℕ) → n ≤ m → if_is b n ≤ m
if_below true n m h = h
if_below false n m h = omega arith

sums : (a b : ℕ) → a ≤ 2 ^ 19 → b ≤ 2 ^ 19 → a + b ≤ 2 ^ 20
sums a b h i = omega arith

job_below : (j : Job) (c : ℕ) → IsJob j → packets_in j c + bytes_in j c ≤ 2 ^ 20
job_below j c h = let x : packets_in j c ≤ 2 ^ 19 = if_below (nat_eq c (2 * side j.dir)) j.packets (2 ^ 19) (let p = h.packets in omega arith) in
    let y : bytes_in j c ≤ 2 ^ 19 = if_below (nat_eq c (2 * side j.dir + 1)) j.bytes (2 ^ 19) (let p = h.bytes in omega arith) in sums (packets_in j c) (bytes_in j c) x y

added_below : (rows : ℕ) (words : List ℕ) (key c : ℕ) (l : List Addition) → ((i : ℕ) (a : Addition) → get_elem? l i ≡ some a → IsJob a.job) → added key c l ≤ length l * 2 ^ 20
added_below rows words key c [] h = omega arith
added_below rows words key c (a ∷ l) h = let x = if_below (is_row a.landed && nat_eq a.job.key key) (packets_in a.job c + bytes_in a.job c) (2 ^ 20) (job_below a.job c (h 0 a refl)) in
    let y = added_below rows words key c l (λ i b e. h (suc i) b e) in omega arith

job_of : (rows : ℕ) (words : List ℕ) (a : Addition) (b : Landed) → IsAdd rows words a b → IsJob a.job
job_of rows words a (InRow row) h = h.0
job_of rows words a Full h = h.0

way_below : (rows : ℕ) (words : List ℕ) (key c : ℕ) (st : Stage) → Stands rows words st → under_way key c st ≤ busy st * 2 ^ 20
way_below rows words key c Idle h = omega arith
way_below rows words key c (Probing j t) h = omega arith
way_below rows words key c (Row j t) h = omega arith
way_below rows words key c (Looking k t) h = omega arith
way_below rows words key c (Reading k t) h = omega arith
way_below rows words key c (Half j t) h = if_below (nat_eq j.key key) (packets_in j c) (1 * 2 ^ 20) (if_below (nat_eq c (2 * side j.dir)) j.packets (1 * 2 ^ 20) (let p = h.0.packets in omega arith))

times : (a b n m : ℕ) → a ≤ n * 2 ^ 20 → b ≤ m * 2 ^ 20 → (k : ℕ) → n + m ≤ k → a + b ≤ k * 2 ^ 20
times a b n m h i k l = omega arith

part_below : (rows : ℕ) (words : List ℕ) (key c : ℕ) (v : View) → Sits rows words v → part key c v ≤ calls v * 2 ^ 20
part_below rows words key c v s = let x = added_below rows words key c v.adds (λ i a e. job_of rows words a a.landed (s.adds i a e)) in let y = way_below rows words key c v.stage s.stands in let n = s.counted in
    times (added key c v.adds) (under_way key c v.stage) (length v.adds) (busy v.stage) x y (v.left + v.made) (omega arith)

pub seats_stay : (K : View → Type 0) (vs : List View) (me : ℕ) (w : View) → K w → ((j : ℕ) (d : View) → get_elem? vs j ≡ some d → K d) → (j : ℕ) (d : View) → get_elem? (set vs me w) j ≡ some d → K d
seats_stay K vs me w mine others j d e = ⊎_elim (λ (t : (j ≡ me) × (w ≡ d)). subst K t.1 mine) (λ (t : (j ≢ me) × (get_elem? vs j ≡ some d)). others j d t.1) (at_set vs me j w d e)

whole : (a b n : ℕ) → a ≤ b * 2 ^ 20 → b ≡ n → n ≤ 2 ^ 28 → a ≤ 2 ^ 48
whole a b n h e l = omega arith

-- the new number, the old, the sums, and the parts
up : (new old k sum_new sum_old part_new part_old : ℕ) → new ≡ old + k → old ≡ sum_old → sum_new + part_old ≡ sum_old + part_new → part_new ≡ part_old + k → new ≡ sum_new
up new old k sum_new sum_old part_new part_old a b c d = omega arith

level : (new old sum_new sum_old part_new part_old : ℕ) → new ≡ old → old ≡ sum_old → sum_new + part_old ≡ sum_old + part_new → part_new ≡ part_old → new ≡ sum_new
level new old sum_new sum_old part_new part_old a b c d = omega arith

fits_word : (n m k : ℕ) → n ≡ m → m ≤ 2 ^ 48 → k < 2 ^ 19 → n + k < 2 ^ 64
fits_word n m k e h l = omega arith

plus_zero : (a b k : ℕ) → b ≡ 0 → a + k ≡ (a + b) + k
plus_zero a b k e = omega arith

is_same : (n m : ℕ) → n ≡ m → nat_eq n m ≡ true
is_same n m e = eq-eqb n m e

is_other : (n m : ℕ) → n ≢ m → nat_eq n m ≡ false
is_other n m e = ne_eqb n m e

pick_same : (n m k : ℕ) → n ≡ m → if_is (nat_eq n m) k ≡ k
pick_same n m k e = ap (λ (b : Bool). if_is b k) (is_same n m e)

pick_other : (n m k : ℕ) → n ≢ m → if_is (nat_eq n m) k ≡ 0
pick_other n m k e = ap (λ (b : Bool). if_is b k) (is_other n m e)

zero_if : (b : Bool) → if_is b 0 ≡ 0
zero_if true = refl
zero_if false = refl

own_packets : (j : Job) → if_is (nat_eq j.key j.key) (packets_in j (2 * side j.dir)) ≡ j.packets
own_packets j = pick_same j.key j.key (packets_in j (2 * side j.dir)) refl ∙ pick_same (2 * side j.dir) (2 * side j.dir) j.packets refl

other_packets : (j : Job) (key2 c2 : ℕ) → (key2 ≡ j.key → c2 ≡ 2 * side j.dir → ⊥) → if_is (nat_eq j.key key2) (packets_in j c2) ≡ 0
other_packets j key2 c2 apart = dite (ℕ_discrete j.key key2)
    (λ (e : j.key ≡ key2). ap (if_is (nat_eq j.key key2)) (pick_other c2 (2 * side j.dir) j.packets (λ f. apart (sym e) f)) ∙ zero_if (nat_eq j.key key2))
    (λ ne. pick_other j.key key2 (packets_in j c2) ne)

own_bytes : (j : Job) → if_is (nat_eq j.key j.key) (packets_in j (2 * side j.dir + 1) + bytes_in j (2 * side j.dir + 1)) ≡ if_is (nat_eq j.key j.key) (packets_in j (2 * side j.dir + 1)) + j.bytes
own_bytes j = let a = pick_same j.key j.key (packets_in j (2 * side j.dir + 1) + bytes_in j (2 * side j.dir + 1)) refl in let b = pick_same j.key j.key (packets_in j (2 * side j.dir + 1)) refl in
    let d : bytes_in j (2 * side j.dir + 1) ≡ j.bytes = pick_same (2 * side j.dir + 1) (2 * side j.dir + 1) j.bytes refl in omega (arith, a, b, d)

other_bytes : (j : Job) (key2 c2 : ℕ) → (key2 ≡ j.key → c2 ≡ 2 * side j.dir + 1 → ⊥) → if_is (nat_eq j.key key2) (packets_in j c2 + bytes_in j c2) ≡ if_is (nat_eq j.key key2) (packets_in j c2)
other_bytes j key2 c2 apart = dite (ℕ_discrete j.key key2)
    (λ (e : j.key ≡ key2). let d : bytes_in j c2 ≡ 0 = pick_other c2 (2 * side j.dir + 1) j.bytes (λ f. apart (sym e) f) in ap (if_is (nat_eq j.key key2)) (let x : packets_in j c2 + bytes_in j c2 ≡ packets_in j c2 = omega (arith, d) in x))
    (λ ne. pick_other j.key key2 (packets_in j c2 + bytes_in j c2) ne ∙ sym (pick_other j.key key2 (packets_in j c2) ne))

bytes_else : (l new a b : ℕ) {w : ℕ} → l ≡ a + new → w ≡ b → new ≡ b → l + 0 ≡ a + w
bytes_else l new a b e f g = omega arith

bytes_own : (l new a b k : ℕ) {w : ℕ} → l ≡ a + new → w ≡ b → new ≡ b + k → l + 0 ≡ (a + w) + k
bytes_own l new a b k e f g = omega arith

none_one : (rows : ℕ) (words : List ℕ) (key c : ℕ) → ((u : ℕ) → At rows words key u → ⊥) → (a : Addition) (b : Landed) → IsAdd rows words a b → if_is (is_row b && nat_eq a.job.key key) (packets_in a.job c + bytes_in a.job c) ≡ 0
none_one rows words key c nope a (InRow row) h = pick_other a.job.key key (packets_in a.job c + bytes_in a.job c) (λ e. nope h.1.0 (subst (λ (x : ℕ). At rows words x h.1.0) e h.1.1))
none_one rows words key c nope a Full h = refl

pub none_added : (rows : ℕ) (words : List ℕ) (key c : ℕ) → ((u : ℕ) → At rows words key u → ⊥) → (l : List Addition) → ((i : ℕ) (a : Addition) → get_elem? l i ≡ some a → IsAdd rows words a a.landed) → added key c l ≡ 0
none_added rows words key c nope [] h = refl
none_added rows words key c nope (a ∷ l) h = let x = none_one rows words key c nope a a.landed (h 0 a refl) in let y = none_added rows words key c nope l (λ i b e. h (suc i) b e) in omega arith

none_way : (rows : ℕ) (words : List ℕ) (key c : ℕ) → ((u : ℕ) → At rows words key u → ⊥) → (st : Stage) → Stands rows words st → under_way key c st ≡ 0
none_way rows words key c nope Idle h = refl
none_way rows words key c nope (Probing j t) h = refl
none_way rows words key c nope (Row j t) h = refl
none_way rows words key c nope (Looking k t) h = refl
none_way rows words key c nope (Reading k t) h = refl
none_way rows words key c nope (Half j t) h = pick_other j.key key (packets_in j c) (λ e. nope t (subst (λ (x : ℕ). At rows words x t) e h.1))

pub same_part : (a b u w : ℕ) → a ≡ b → u ≡ 0 → w ≡ 0 → a + u ≡ b + w
same_part a b u w e f g = omega arith

pub busy_fits : (a b u m : ℕ) → a ≡ b → u ≡ 1 → b + 1 ≤ m → a + u ≤ m
busy_fits a b u m e f h = omega arith

pub missed_fits : (n a b m : ℕ) → n ≡ a + 1 → a ≡ b → b + 1 ≤ m → n + 0 ≤ m
missed_fits n a b m e f h = omega arith

pub missed_part : (l a b w : ℕ) → l ≡ a + 0 → a ≡ b → w ≡ 0 → l + 0 ≡ b + w
missed_part l a b w e f g = omega arith

pub too_far : (r t : ℕ) → t + 1 < r → r ≤ t + 1 → ⊥
too_far r t h i = omega arith

abbrev pub nobody : View
nobody = record { left = 0; made = 0; adds = []; notes = []; stage = Idle }

pub no_calls : (rest own all budget : ℕ) → rest + own ≡ all + 0 → own ≡ budget → all ≡ budget → rest ≡ 0
no_calls rest own all budget e f g = omega arith

no_part : (p c t : ℕ) → p ≤ c * 2 ^ 20 → c ≤ t → t ≡ 0 → p ≡ 0
no_part p c t h i e = omega arith

all_his : (all rest a u : ℕ) → rest + (a + u) ≡ all + 0 → rest ≡ 0 → u ≡ 0 → all ≡ a
all_his all rest a u e f g = omega arith

-- A view's change adds to its part of each number, and keeps what it has rows for; its notes tell no more than the views did.
pub record Onward (vs : List View) (v w : View) : Type 0 where
  pub calls_stay : calls w ≡ calls v
  pub parts : (key c : ℕ) → part key c v ≤ part key c w
  pub rows : (key : ℕ) → uses key v ≤ uses key w
  pub notes : (i : ℕ) (n : Note) → get_elem? w.notes i ≡ some n → Tells vs n

grew : (sum_new sum_old new old : ℕ) → sum_new + old ≡ sum_old + new → old ≤ new → sum_old ≤ sum_new
grew sum_new sum_old new old e h = omega arith

pub sum_grew : (f : View → ℕ) (vs : List View) (i : ℕ) (v w : View) → get_elem? vs i ≡ some v → f v ≤ f w → sum_by f vs ≤ sum_by f (set vs i w)
sum_grew f vs i v w at le = grew (sum_by f (set vs i w)) (sum_by f vs) (f w) (f v) (sum_moved f vs i v w at) le

some_then : (n m : ℕ) → 0 < n → n ≤ m → 0 < m
some_then n m h le = omega arith

at_most_then : (k n m : ℕ) → k ≤ n → n ≤ m → k ≤ m
at_most_then k n m h le = omega arith

part_has : (a u : ℕ) → a ≤ a + u
part_has a u = omega arith

pub set_there : (vs : List View) (i : ℕ) (v w : View) → get_elem? vs i ≡ some v → get_elem? (set vs i w) i ≡ some w
set_there vs i v w at = set_here vs i w (read_at vs i v v at).0

first_part : (a u w : ℕ) → u ≡ 0 → a + u ≤ a + w
first_part a u w e = omega arith

same_uses : (a u w : ℕ) → u ≡ w → a + u ≤ a + w
same_uses a u w e = omega arith

last_part : (l a u p q : ℕ) → l ≡ a + q → u ≡ p → p ≤ q → a + u ≤ l + 0
last_part l a u p q e f h = omega arith

last_uses : (l a u p : ℕ) → l ≡ a + p → u ≡ p → a + u ≤ l + 0
last_uses l a u p e f = omega arith

pub same_le : (a b : ℕ) → b ≡ a → a ≤ b
same_le a b e = omega arith

pub more_uses : (a b u w : ℕ) → b ≡ a → u ≡ 0 → a + u ≤ b + w
more_uses a b u w e f = omega arith

pub missed_uses : (l a b u : ℕ) → l ≡ a + 0 → a ≡ b → u ≡ 0 → b + u ≤ l + 0
missed_uses l a b u e f g = omega arith

pub has_one : (a n : ℕ) → 0 < a + if_is (nat_eq n n) 1
has_one a n = let e : if_is (nat_eq n n) 1 ≡ 1 = pick_same n n 1 refl in omega arith

module _ (z : Plan) where
  abbrev St : Type 0
  St = State U View

  abbrev M : Type 0
  M = Me U View

  abbrev R : ℕ
  R = z.rows

  -- no sum passes its word
  pub bounded : (s : St) (r : Kept z s) (key c : ℕ) → sum_by (part key c) s.views ≤ 2 ^ 48
  bounded s r key c = let h = sum_below (part key c) calls (2 ^ 20) s.views (λ i v e. part_below R s.words key c v (r.each_seat i v e)) in let b = r.budget in let small = r.small in
      whole (sum_by (part key c) s.views) (sum_by calls s.views) z.calls h b small

  notes_stay : (s : St) (r : Kept z s) (id : ℕ) (v w : View) → get_elem? s.views id ≡ some v → Onward s.views v w
      → (j : ℕ) (d : View) → get_elem? (set s.views id w) j ≡ some d → (i : ℕ) (n : Note) → get_elem? d.notes i ≡ some n → Tells (set s.views id w) n
  notes_stay s r id v w at on j d e i n f key c = at_most_then (noted key c n) (sum_by (part key c) s.views) (sum_by (part key c) (set s.views id w))
      (⊎_elim (λ (t : (j ≡ id) × (w ≡ d)). on.notes i n (subst (λ (x : View). get_elem? x.notes i ≡ some n) (sym t.1) f) key c) (λ (t : (j ≢ id) × (get_elem? s.views j ≡ some d)). r.each_note j d t.1 i n f key c) (at_set s.views id j w d e))
      (sum_grew (part key c) s.views id v w at (on.parts key c))

  still_used : (s : St) (r : Kept z s) (id : ℕ) (v w : View) → get_elem? s.views id ≡ some v → Onward s.views v w → (key turn : ℕ) → At R s.words key turn → 0 < sum_by (uses key) (set s.views id w)
  still_used s r id v w at on key turn a = some_then (sum_by (uses key) s.views) (sum_by (uses key) (set s.views id w)) (r.used key turn a) (sum_grew (uses key) s.views id v w at (on.rows key))

  moved : (s : St) (r : Kept z s) (i n id : ℕ) (cs : List (ℕ × U)) (v w : View) → get_elem? s.views id ≡ some v → Stays R s.words (set s.words i n) → Sits R (set s.words i n) w → Onward s.views v w
      → ((p : ℕ) → p < R → get_or (set s.words i n) p 0 ≢ 0 → Owned R (set s.words i n) p)
      → ((p c : ℕ) → p < R → c < 4 → get_or (set s.words i n) p 0 ≡ 0 → get_or (set s.words i n) (R + 4 * p + c) 0 ≡ 0)
      → ((key turn c : ℕ) → At R (set s.words i n) key turn → c < 4 → get_or (set s.words i n) (R + 4 * spot R key turn + c) 0 ≡ sum_by (part key c) (set s.views id w))
      → ((key turn : ℕ) → At R (set s.words i n) key turn → 0 < sum_by (uses key) (set s.views id w))
      → Kept z (stepped s i n id cs w keeps)
  moved s r i n id cs v w at stays sits on owned blank sums_ used_ = let wide = r.wide in record {
    wide = length-set s.words i n ∙ wide;
    small = r.small;
    owned = owned;
    blank = blank;
    sums = sums_;
    used = used_;
    each_seat = seats_stay (Sits R (set s.words i n)) s.views id w sits (λ j d e. sits_on R s.words (set s.words i n) stays d (r.each_seat j d e));
    each_note = notes_stay s r id v w at on;
    budget = let same = on.calls_stay in let m = sum_moved calls s.views id v w at in let b = r.budget in omega arith;
  }

  other_row : (s : St) (key key2 turn turn2 c c2 : ℕ) → key2 ≡ key → c2 ≡ c → At R s.words key turn → At R s.words key2 turn2 → R + 4 * spot R key2 turn2 + c2 ≡ R + 4 * spot R key turn + c
  other_row s key key2 turn turn2 c c2 e f a b = let t : turn2 ≡ turn = at_once R s.words key turn2 turn (subst (λ (x : ℕ). At R s.words x turn2) e b) a in
      let q : spot R key2 turn2 ≡ spot R key turn = λ i. spot R (e i) (t i) in omega arith

  -- a step that adds k to number c of the row at which the key stands
  raised : (s : St) (r : Kept z s) (id : ℕ) (cs : List (ℕ × U)) (v w : View) (key turn c k : ℕ) → get_elem? s.views id ≡ some v → At R s.words key turn → c < 4 → Sits R s.words w → Onward s.views v w
      → ((key2 c2 : ℕ) → (key2 ≡ key → c2 ≡ c → ⊥) → part key2 c2 w ≡ part key2 c2 v) → part key c w ≡ part key c v + k
      → Kept z (stepped s (R + 4 * spot R key turn + c) (get_or s.words (R + 4 * spot R key turn + c) 0 + k) id cs w keeps)
  raised s r id cs v w key turn c k at here low sits on others mine = let p : ℕ = spot R key turn in let i : ℕ = R + 4 * p + c in let n : ℕ = get_or s.words i 0 + k in let wide = r.wide in
      let p_in : p < R = place_below (code key) turn R here.inside in
      let else_ : (j : ℕ) → j ≢ i → get_or (set s.words i n) j 0 ≡ get_or s.words j 0 = λ j ne. get_or-set_other s.words i j n 0 ne in
      let keys : (q : ℕ) → q < R → get_or (set s.words i n) q 0 ≡ get_or s.words q 0 = λ q h. else_ q (λ e. omega arith) in
      let stays : Stays R s.words (set s.words i n) = λ q h _. keys q h in
      let back : Stays R (set s.words i n) s.words = λ q h _. sym (keys q h) in
      moved s r i n id cs v w at stays (sits_on R s.words (set s.words i n) stays w sits) on
      (λ q h taken. owned_stays R s.words (set s.words i n) stays q (r.owned q h (λ e. taken (keys q h ∙ e))))
      (λ q d h l free. else_ (R + 4 * q + d) (λ e. let e' : q ≡ p = omega arith in let is = here.is in let f : get_or s.words p 0 ≡ 0 = subst (λ (x : ℕ). get_or s.words x 0 ≡ 0) e' (sym (keys q h) ∙ free) in omega arith) ∙ r.blank q d h l (sym (keys q h) ∙ free))
      (λ key2 turn2 c2 a l. let b : At R s.words key2 turn2 = at_stays R (set s.words i n) s.words back key2 turn2 a in let q : ℕ = spot R key2 turn2 in
      let m = sum_moved (part key2 c2) s.views id v w at in let old = r.sums key2 turn2 c2 b l in
      dite (ℕ_discrete (R + 4 * q + c2) i)
      (λ (e : R + 4 * q + c2 ≡ i). let same_c : c2 ≡ c = omega arith in let same_q : q ≡ p = omega arith in
      let same_k : key2 ≡ key = same_code key2 key (sym b.is ∙ (ap (λ (x : ℕ). get_or s.words x 0) same_q ∙ here.is)) in
      let grown : part key2 c2 w ≡ part key2 c2 v + k = subst (λ (x : ℕ × ℕ). part x.0 x.1 w ≡ part x.0 x.1 v + k) (λ t. (sym same_k t, sym same_c t)) mine in
      let now : get_or (set s.words i n) (R + 4 * q + c2) 0 ≡ get_or s.words (R + 4 * q + c2) 0 + k = (ap (λ (x : ℕ). get_or (set s.words i n) x 0) e ∙ get_or-set_same s.words i n 0 (omega arith)) ∙ ap (λ (x : ℕ). get_or s.words x 0 + k) (sym e) in
      up (get_or (set s.words i n) (R + 4 * q + c2) 0) _ k _ _ _ _ now old m grown)
      (λ ne. let still : part key2 c2 w ≡ part key2 c2 v = others key2 c2 (λ ek ec. ne (other_row s key key2 turn turn2 c c2 ek ec here b)) in
      level _ _ _ _ _ _ (else_ (R + 4 * q + c2) ne) old m still))
      (λ key2 turn2 a. still_used s r id v w at on key2 turn2 (at_stays R (set s.words i n) s.words back key2 turn2 a))

  -- the number of a row, at most the sum of all adds
  number : (s : St) (r : Kept z s) (key turn c k : ℕ) → At R s.words key turn → c < 4 → k < 2 ^ 19 → let n = get_or s.words (R + 4 * spot R key turn + c) 0 in (n + k) % 2 ^ 64 ≡ n + k
  number s r key turn c k here low small = let e = r.sums key turn c here low in let b = bounded s r key c in
      mod-eq_of_lt (fits_word (get_or s.words (R + 4 * spot R key turn + c) 0) (sum_by (part key c) s.views) k e b small)

  pub adds_packets : (slots id : ℕ) (me : M) (j : Job) (turn : ℕ) → me.0.stage ≡ Row j turn
      → Allows (Kept z) slots id me (R + 4 * spot R j.key turn + 2 * side j.dir) (λ n. (n + j.packets) % 2 ^ 64) (λ _ m. (m.0 ≡ record me.0 { stage = Half j turn }) × (m.1 ≡ me.1))
  adds_packets slots id me j turn is s r _ at _ = let v : View = me.0 in let sits = r.each_seat id v at in let st : Stands R s.words (Row j turn) = subst (Stands R s.words) is sits.stands in
      let w : View = record v { stage = Half j turn } in let c : ℕ = 2 * side j.dir in let i : ℕ = R + 4 * spot R j.key turn + c in
      let low : c < 4 = side_low j.dir in
      let was : (key2 c2 : ℕ) → under_way key2 c2 v.stage ≡ 0 = λ key2 c2. ap (under_way key2 c2) is in
      let held : busy v.stage ≡ 1 = ap busy is in let n = sits.counted in (
        w,
        keeps,
        tt,
        subst (λ (x : ℕ). Kept z (stepped s i x id me.1 w keeps)) (sym (number s r j.key turn c j.packets st.1 low st.0.packets))
            (raised s r id me.1 v w j.key turn c j.packets at st.1 low record { stands = st; adds = sits.adds; counted = omega arith }
            record { calls_stay = refl; parts = λ key2 c2. first_part (added key2 c2 v.adds) (under_way key2 c2 v.stage) (under_way key2 c2 (Half j turn)) (was key2 c2); rows = λ key2. same_uses (landings key2 v.adds) (stands_at key2 v.stage) (stands_at key2 (Half j turn)) (ap (stands_at key2) is); notes = λ i n e. r.each_note id v at i n e }
            (λ key2 c2 apart. ap (λ (x : ℕ). added key2 c2 v.adds + x) (other_packets j key2 c2 apart ∙ sym (was key2 c2)))
            (ap (λ (x : ℕ). added j.key c v.adds + x) (own_packets j) ∙ plus_zero (added j.key c v.adds) (under_way j.key c v.stage) j.packets (was j.key c))),
        (refl, refl),
      )

  pub adds_bytes : (slots id : ℕ) (me : M) (j : Job) (turn : ℕ) → me.0.stage ≡ Half j turn
      → Allows (Kept z) slots id me (R + 4 * spot R j.key turn + (2 * side j.dir + 1)) (λ n. (n + j.bytes) % 2 ^ 64) (λ _ m. (m.0 ≡ record me.0 { stage = Idle; adds = me.0.adds ++ landed j (spot R j.key turn) ∷ [] }) × IsOneToOne (places_of (me.0.adds ++ landed j (spot R j.key turn) ∷ [])) × (m.1 ≡ me.1))
  adds_bytes slots id me j turn is s r _ at _ = let v : View = me.0 in let sits = r.each_seat id v at in let st : Stands R s.words (Half j turn) = subst (Stands R s.words) is sits.stands in let row : ℕ = spot R j.key turn in
      let adds_ : (q : ℕ) (a : Addition) → get_elem? (v.adds ++ landed j row ∷ []) q ≡ some a → IsAdd R s.words a a.landed = λ q a e.
      ⊎_elim (λ (t : get_elem? v.adds q ≡ some a). sits.adds q a t) (λ (t : landed j row ≡ a). subst (λ (y : Addition). IsAdd R s.words y y.landed) t (st.0, (turn, st.1, refl))) (at_snoc v.adds (landed j row) a q e) in
      let w : View = record v { stage = Idle; adds = v.adds ++ landed j row ∷ [] } in let c : ℕ = 2 * side j.dir + 1 in let i : ℕ = R + 4 * spot R j.key turn + c in
      let low : c < 4 = side_next j.dir in
      let was : (key2 c2 : ℕ) → under_way key2 c2 v.stage ≡ if_is (nat_eq j.key key2) (packets_in j c2) = λ key2 c2. ap (under_way key2 c2) is in
      let held : busy v.stage ≡ 1 = ap busy is in let n = sits.counted in let long : length (v.adds ++ landed j row ∷ []) ≡ length v.adds + 1 = length-append v.adds (landed j row ∷ []) in (
        w,
        keeps,
        tt,
        subst (λ (x : ℕ). Kept z (stepped s i x id me.1 w keeps)) (sym (number s r j.key turn c j.bytes st.1 low st.0.bytes))
            (raised s r id me.1 v w j.key turn c j.bytes at st.1 low record {
              stands = tt;
              adds = adds_;
              counted = omega arith;
            } record {
              calls_stay = refl;
              parts = λ key2 c2. last_part (added key2 c2 (v.adds ++ landed j row ∷ [])) (added key2 c2 v.adds) (under_way key2 c2 v.stage) (if_is (nat_eq j.key key2) (packets_in j c2)) (if_is (nat_eq j.key key2) (packets_in j c2 + bytes_in j c2)) (added_snoc key2 c2 v.adds (landed j row)) (was key2 c2) (if_more (nat_eq j.key key2) (packets_in j c2) (bytes_in j c2));
              rows = λ key2. last_uses (landings key2 (v.adds ++ landed j row ∷ [])) (landings key2 v.adds) (stands_at key2 v.stage) (if_is (nat_eq j.key key2) 1) (landings-snoc key2 v.adds (landed j row)) (ap (stands_at key2) is);
              notes = λ i n e. r.each_note id v at i n e;
            }
            (λ key2 c2 apart. bytes_else _ _ _ _ (added_snoc key2 c2 v.adds (landed j row)) (was key2 c2) (other_bytes j key2 c2 apart))
            (bytes_own _ _ _ _ _ (added_snoc j.key c v.adds (landed j row)) (was j.key c) (own_bytes j))),
        (refl, one_to_one R s.words (v.adds ++ landed j row ∷ []) adds_, refl),
      )

  -- what begins a call, or goes on with it: the numbers of calls, and what stays
  pub record Begins (v : View) (st : Stage) : Type 0 where
    pub still : calls (begun v st) ≡ calls v
    pub counts : length v.adds + 1 ≤ (begun v st).made
    pub adds : (begun v st).adds ≡ v.adds
    pub notes : (begun v st).notes ≡ v.notes
    pub quiet : (key c : ℕ) → under_way key c st ≡ 0
    pub away : (key : ℕ) → stands_at key st ≡ 0

  pub begins : (v : View) (st : Stage) → length v.adds + busy st ≤ v.made → (st ≡ Idle → 0 < v.left) → ((j : Job) (t : ℕ) → st ≡ Row j t → ⊥) → ((j : Job) (t : ℕ) → st ≡ Half j t → ⊥)
      → ((k t : ℕ) → st ≡ Looking k t → ⊥) → ((k t : ℕ) → st ≡ Reading k t → ⊥) → Begins v st
  begins v Idle n has no_row no_half no_look no_read = let l = has refl in record { still = omega arith; counts = omega arith; adds = refl; notes = refl; quiet = λ key c. refl; away = λ key. refl }
  begins v (Probing j t) n has no_row no_half no_look no_read = record { still = refl; counts = n; adds = refl; notes = refl; quiet = λ key c. refl; away = λ key. refl }
  begins v (Row j t) n has no_row no_half no_look no_read = absurd (no_row j t refl)
  begins v (Half j t) n has no_row no_half no_look no_read = absurd (no_half j t refl)
  begins v (Looking k t) n has no_row no_half no_look no_read = absurd (no_look k t refl)
  begins v (Reading k t) n has no_row no_half no_look no_read = absurd (no_read k t refl)

  -- a step that changes no word, and no sum
  pub unmoved : (s : St) (r : Kept z s) (i id : ℕ) (cs : List (ℕ × U)) (v w : View) → get_elem? s.views id ≡ some v → Sits R s.words w → Onward s.views v w → ((key c : ℕ) → part key c w ≡ part key c v) → Kept z (stepped s i (get_or s.words i 0) id cs w keeps)
  unmoved s r i id cs v w at sits on parts = subst (λ (ws : List ℕ). Kept z record { words = ws; homes = s.homes; views = set s.views id w }) (sym (set-get_or s.words i 0)) record {
    wide = r.wide;
    small = r.small;
    owned = r.owned;
    blank = r.blank;
    sums = λ key turn c a l. let m = sum_moved (part key c) s.views id v w at in level _ _ _ _ _ _ refl (r.sums key turn c a l) m (parts key c);
    used = λ key turn a. still_used s r id v w at on key turn a;
    each_seat = seats_stay (Sits R s.words) s.views id w sits r.each_seat;
    each_note = notes_stay s r id v w at on;
    budget = let same = on.calls_stay in let m = sum_moved calls s.views id v w at in let b = r.budget in omega arith;
  }

  -- nothing was added to a key that has no row
  pub nothing : (s : St) (r : Kept z s) (key c : ℕ) → ((u : ℕ) → At R s.words key u → ⊥) → (v : View) → Sits R s.words v → part key c v ≡ 0
  nothing s r key c nope v sits = let a = none_added R s.words key c nope v.adds sits.adds in let b = none_way R s.words key c nope v.stage sits.stands in omega arith

  pub claimed : (s : St) (r : Kept z s) (key turn : ℕ) → turn < R → AllDecided R s.words key turn → get_or s.words (spot R key turn) 0 ≡ 0 → (Stays R s.words (set s.words (spot R key turn) (code key))) × At R (set s.words (spot R key turn) (code key)) key turn
  claimed s r key turn inside all free = let p : ℕ = spot R key turn in let p_in : p < R = place_below (code key) turn R inside in let wide = r.wide in
      let stays : Stays R s.words (set s.words p (code key)) = λ q h taken. get_or-set_other s.words p q (code key) 0 (λ e. taken (ap (λ (n : ℕ). get_or s.words n 0) e ∙ free)) in
      (stays, record { inside = inside; is = get_or-set_same s.words p (code key) 0 (omega arith); earlier = all_stay R s.words (set s.words p (code key)) stays key turn (omega arith) all })

  pub claims : (s : St) (r : Kept z s) (id : ℕ) (cs : List (ℕ × U)) (v w : View) (key turn : ℕ) → get_elem? s.views id ≡ some v → turn < R → AllDecided R s.words key turn → get_or s.words (spot R key turn) 0 ≡ 0
      → Sits R (set s.words (spot R key turn) (code key)) w → Onward s.views v w → 0 < uses key w → ((key2 c : ℕ) → part key2 c w ≡ part key2 c v) → Kept z (stepped s (spot R key turn) (code key) id cs w keeps)
  claims s r id cs v w key turn at inside all free sits on mine parts = let p : ℕ = spot R key turn in let p_in : p < R = place_below (code key) turn R inside in let n : ℕ = code key in let wide = r.wide in
      let t = claimed s r key turn inside all free in let stays = t.0 in let now = t.1 in
      let else_ : (j : ℕ) → j ≢ p → get_or (set s.words p n) j 0 ≡ get_or s.words j 0 = λ j ne. get_or-set_other s.words p j n 0 ne in
      moved s r p n id cs v w at stays sits on
      (λ q h taken. dite (ℕ_discrete q p) (λ (e : q ≡ p). record { key = key; turn = turn; at = now; here = sym e })
      (λ ne. owned_stays R s.words (set s.words p n) stays q (r.owned q h (λ e. taken (else_ q ne ∙ e)))))
      (λ q d h l empty. let ne : q ≢ p = λ (e : q ≡ p). let is = now.is in let f : get_or (set s.words p n) p 0 ≡ 0 = subst (λ (x : ℕ). get_or (set s.words p n) x 0 ≡ 0) e empty in omega arith in
      else_ (R + 4 * q + d) (λ e. omega arith) ∙ r.blank q d h l (sym (else_ q ne) ∙ empty))
      (λ key2 turn2 c a l. let q : ℕ = spot R key2 turn2 in let q_in : q < R = place_below (code key2) turn2 R a.inside in let far : R + 4 * q + c ≢ p = λ e. omega arith in
      let m = sum_moved (part key2 c) s.views id v w at in let still = parts key2 c in
      dite (ℕ_discrete q p)
      (λ (e : q ≡ p). let same_k : key2 ≡ key = same_code key2 key (sym a.is ∙ (ap (λ (x : ℕ). get_or (set s.words p n) x 0) e ∙ now.is)) in
      let none : sum_by (part key2 c) s.views ≡ 0 = zero_sum (part key2 c) s.views (λ i x f. nothing s r key2 c (subst (λ (k : ℕ). (u : ℕ) → At R s.words k u → ⊥) (sym same_k) (nowhere R s.words key turn all free)) x (r.each_seat i x f)) in
      let zero_ : get_or s.words (R + 4 * q + c) 0 ≡ 0 = r.blank q c q_in l (ap (λ (x : ℕ). get_or s.words x 0) e ∙ free) in
      level _ _ _ _ _ _ (else_ (R + 4 * q + c) far) (zero_ ∙ sym none) m still)
      (λ ne. let is : get_or s.words q 0 ≡ code key2 = sym (else_ q ne) ∙ a.is in
      let old : At R s.words key2 turn2 = owner_is R s.words key2 turn2 a.inside is (r.owned q q_in (λ e. omega arith)) in
      level _ _ _ _ _ _ (else_ (R + 4 * q + c) far) (r.sums key2 turn2 c old l) m still))
      (λ key2 turn2 a. let q : ℕ = spot R key2 turn2 in let q_in : q < R = place_below (code key2) turn2 R a.inside in
      dite (ℕ_discrete q p)
      (λ (e : q ≡ p). let same_k : key2 ≡ key = same_code key2 key (sym a.is ∙ (ap (λ (x : ℕ). get_or (set s.words p n) x 0) e ∙ now.is)) in
      some_then (uses key2 w) (sum_by (uses key2) (set s.views id w)) (subst (λ (k : ℕ). 0 < uses k w) (sym same_k) mine) (in_sum (uses key2) (set s.views id w) id w (set_there s.views id v w at)))
      (λ ne. let is : get_or s.words q 0 ≡ code key2 = sym (else_ q ne) ∙ a.is in
      still_used s r id v w at on key2 turn2 (owner_is R s.words key2 turn2 a.inside is (r.owned q q_in (λ e. omega arith)))))

  -- a seat that has all calls of the object has all that was added
  pub sole_has_all : (s : St) (r : Kept z s) (id : ℕ) (v : View) → get_elem? s.views id ≡ some v → calls v ≡ z.calls → (key c : ℕ) → under_way key c v.stage ≡ 0 → sum_by (part key c) s.views ≡ added key c v.adds
  sole_has_all s r id v at sole key c quiet = let vs : List View = set s.views id nobody in
      let none : sum_by calls vs ≡ 0 = no_calls (sum_by calls vs) (calls v) (sum_by calls s.views) z.calls (sum_moved calls s.views id v nobody at) sole r.budget in
      let sit : (i : ℕ) (x : View) → get_elem? vs i ≡ some x → Sits R s.words x = seats_stay (Sits R s.words) s.views id nobody record { stands = tt; adds = λ i a e. absurd (some-ne-none a (sym e)); counted = omega arith } r.each_seat in
      let empty : sum_by (part key c) vs ≡ 0 = zero_sum (part key c) vs (λ i x e. let t = in_sum calls vs i x e in let b = part_below R s.words key c x (sit i x e) in no_part (part key c x) (calls x) (sum_by calls vs) b t none) in
      let m = sum_moved (part key c) s.views id v nobody at in
      all_his (sum_by (part key c) s.views) (sum_by (part key c) vs) (added key c v.adds) (under_way key c v.stage) m empty quiet

  pub adds_packets_at : (slots id : ℕ) (me : M) (i k row : ℕ) (j j' : Job) (turn turn' : ℕ) → me.0.stage ≡ Row j turn → row ≡ spot R j.key turn → i ≡ R + 4 * row + 2 * side j.dir → k ≡ j.packets → j' ≡ j → turn' ≡ turn
      → Allows (Kept z) slots id me i (λ n. (n + k) % 2 ^ 64) (λ _ m. (m.0 ≡ record me.0 { stage = Half j' turn' }) × (m.1 ≡ me.1))
  adds_packets_at slots id me i k row j j' turn turn' is here place e a b = subst (λ (x : ℕ × ℕ × Job × ℕ). Allows (Kept z) slots id me x.0 (λ n. (n + x.1) % 2 ^ 64) (λ _ m. (m.0 ≡ record me.0 { stage = Half x.2 x.3 }) × (m.1 ≡ me.1)))
      (λ t. (sym (place ∙ ap (λ (p : ℕ). R + 4 * p + 2 * side j.dir) here) t, sym e t, sym a t, sym b t)) (adds_packets slots id me j turn is)

  pub adds_bytes_at : (slots id : ℕ) (me : M) (i k row row' : ℕ) (j j' : Job) (turn : ℕ) → me.0.stage ≡ Half j turn → row ≡ spot R j.key turn → i ≡ R + 4 * row + (2 * side j.dir + 1) → k ≡ j.bytes → j' ≡ j → row' ≡ row
      → Allows (Kept z) slots id me i (λ n. (n + k) % 2 ^ 64) (λ _ m. (m.0 ≡ record me.0 { stage = Idle; adds = me.0.adds ++ landed j' row' ∷ [] }) × IsOneToOne (places_of (me.0.adds ++ landed j' row' ∷ [])) × (m.1 ≡ me.1))
  adds_bytes_at slots id me i k row row' j j' turn is here place e a b = subst (λ (x : ℕ × ℕ × Job × ℕ).
      Allows (Kept z) slots id me x.0 (λ n. (n + x.1) % 2 ^ 64) (λ _ m. (m.0 ≡ record me.0 { stage = Idle; adds = me.0.adds ++ landed x.2 x.3 ∷ [] }) × IsOneToOne (places_of (me.0.adds ++ landed x.2 x.3 ∷ [])) × (m.1 ≡ me.1)))
      (λ t. (sym (place ∙ ap (λ (p : ℕ). R + 4 * p + (2 * side j.dir + 1)) here) t, sym e t, sym a t, sym (b ∙ here) t)) (adds_bytes slots id me j turn is)
