-- All places of a map are taken exactly where as many different keys of it were written.
use Rattle.std.proofs.Common.{◌≡◌, ◌≢◌, ℕ, zero, suc, ◌+◌, ◌-◌, ◌≤◌, ◌<◌, Bool, true, false, ◌||◌, nat_eq, cond, List, [], ◌∷◌, ◌++◌, length, map, get_or, take, drop, refl, sym, ap, ◌∙◌, subst, arith, eq-eqb, ne_eqb, true≢false}
use Rattle.std.proofs.lemmas.List.{get_or-take, length-take-le, length-drop}
use Rattle.std.specs.Prelude.{Option, Some, None, MatchOption, IsSome}
use Rattle.std.proofs.Common.{rules}
use Rattle.std.proofs.Math.Nat.{ℕ_set}
use mathlib.Core.Logic.{dite, ∥∥₁_elim}
use mathlib.Core.Option.{some, some-injective, some-ne-none}
use native.Mathlib.Decide.{ℕ_discrete}
use lib.ListN.{get_elem?}
use Rattle.acct_base.specs.declared.register.Key.{Key}
use Rattle.acct_base.specs.declared.register.Key.TheVariants.{Cookie, Set, Owner, Enabled}
use Rattle.acct_base.specs.declared.register.Write.{Write}
use Rattle.acct_base.specs.declared.sizes.RegSizes.{RegSizes}
use Rattle.reg_words.specs.Places.{code, rows, base, total, spot, AllDecided, At, Stays}
use Rattle.acct_base.specs.Distinct.{mem, distinct}
use Rattle.reg_words.specs.Counts.{map_of, codes_in, keys_in, IsWritten, Holder, AreOfWritten, IsSpent}
use Rattle.reg_words.specs.Finds.{IsFound}
use Rattle.reg_words.specs.declared.place.Spot.{Spot}
use Rattle.reg_words.specs.declared.place.Spot.TheVariants.{Known, Free}
use Rattle.atomic_table.proofs.Lists.{at_longer, at_last}
use Rattle.std.specs.Prelude.{filter_map}
use Rattle.reg_words.specs.Registers.{AreKeysSpent}
use Rattle.acct_base.specs.Registers.{number_in_map, keys_in_map, limit_of}
use Rattle.reg_words.specs.Places.{NeverWritten}
use Rattle.reg_words.specs.Rule.{no_limits}
use Rattle.reg_words.proofs.Truths.{never_last, last_never}
use Rattle.reg_words.proofs.Keeps.{some_std, none_std}
use Rattle.acct_base.proofs.Ascending.{distinct_ascending}
use Rattle.acct_base.proofs.DistinctLemmas.{distinct_is, distinct_at_most}
use Rattle.acct_base.proofs.Members.{or_right, mem_at, at_mem, no_twice, nonzero, nonzero_mem, nonzero_short, nonzero_once}
use Rattle.row_probe.specs.Places.{place}
use Rattle.row_probe.proofs.Turns.{place-lt, place-surjective}
use Rattle.reg_words.proofs.Spots.{region, spot_below, same_key, at_once, at_stays, all_stay, all_snoc, nowhere_full}

read_drop : (l : List ℕ) (n i : ℕ) → get_or (drop n l) i 0 ≡ get_or l (n + i) 0
read_drop l zero i = ap (λ (k : ℕ). get_or l k 0) (let e : i ≡ 0 + i = omega arith in e)
read_drop [] (suc n) i = refl
read_drop (x ∷ xs) (suc n) i = read_drop xs n i ∙ ap (λ (k : ℕ). get_or (x ∷ xs) k 0) (let e : suc (n + i) ≡ suc n + i = omega arith in e)

-- the map's own places
abbrev region_of : RegSizes → List ℕ → Key → List ℕ
region_of z places key = take (rows z key) (drop (base z key) places)

module _ (z : RegSizes) (places : List ℕ) (key : Key) (long : length places ≡ total z) where
  region_long : length (region_of z places key) ≡ rows z key
  region_long = let a = region z key in let d : length (drop (base z key) places) ≡ length places - base z key = length-drop (base z key) places in length-take-le (rows z key) (drop (base z key) places) (omega arith)

  region_at : (i : ℕ) → i < rows z key → get_or (region_of z places key) i 0 ≡ get_or places (base z key + i) 0
  region_at i h = get_or-take (rows z key) (drop (base z key) places) i 0 h ∙ read_drop places (base z key) i

-- two keys of one map
same_word : (a b : Key) → map_of a ≡ map_of b → code a ≡ code b → a ≡ b
same_word (Cookie c) (Cookie d) e f = ap Cookie f
same_word (Set c) (Set d) e f = ap Set (omega arith)
same_word (Owner c) (Owner d) e f = ap Owner (omega arith)
same_word Enabled Enabled e f = refl
same_word (Cookie c) (Set d) e f = absurd (omega arith)
same_word (Cookie c) (Owner d) e f = absurd (omega arith)
same_word (Cookie c) Enabled e f = absurd (omega arith)
same_word (Set c) (Cookie d) e f = absurd (omega arith)
same_word (Set c) (Owner d) e f = absurd (omega arith)
same_word (Set c) Enabled e f = absurd (omega arith)
same_word (Owner c) (Cookie d) e f = absurd (omega arith)
same_word (Owner c) (Set d) e f = absurd (omega arith)
same_word (Owner c) Enabled e f = absurd (omega arith)
same_word Enabled (Cookie d) e f = absurd (omega arith)
same_word Enabled (Set d) e f = absurd (omega arith)
same_word Enabled (Owner d) e f = absurd (omega arith)

map_base : (z : RegSizes) (a b : Key) → map_of a ≡ map_of b → (base z a ≡ base z b) × (rows z a ≡ rows z b)
map_base z (Cookie c) (Cookie d) e = (refl, refl)
map_base z (Set c) (Set d) e = (refl, refl)
map_base z (Owner c) (Owner d) e = (refl, refl)
map_base z Enabled Enabled e = (refl, refl)
map_base z (Cookie c) (Set d) e = absurd (omega arith)
map_base z (Cookie c) (Owner d) e = absurd (omega arith)
map_base z (Cookie c) Enabled e = absurd (omega arith)
map_base z (Set c) (Cookie d) e = absurd (omega arith)
map_base z (Set c) (Owner d) e = absurd (omega arith)
map_base z (Set c) Enabled e = absurd (omega arith)
map_base z (Owner c) (Cookie d) e = absurd (omega arith)
map_base z (Owner c) (Set d) e = absurd (omega arith)
map_base z (Owner c) Enabled e = absurd (omega arith)
map_base z Enabled (Cookie d) e = absurd (omega arith)
map_base z Enabled (Set d) e = absurd (omega arith)
map_base z Enabled (Owner d) e = absurd (omega arith)

-- who stands in a map's places is of the map
map_here : (z : RegSizes) (x i : ℕ) (a b : Key) → x < rows z a → i < rows z b → base z a + x ≡ base z b + i → map_of a ≡ map_of b
map_here z x i (Cookie c) (Cookie d) h k e = refl
map_here z x i (Set c) (Set d) h k e = refl
map_here z x i (Owner c) (Owner d) h k e = refl
map_here z x i Enabled Enabled h k e = refl
map_here z x i (Cookie c) (Set d) h k e = absurd (omega arith)
map_here z x i (Cookie c) (Owner d) h k e = absurd (omega arith)
map_here z x i (Cookie c) Enabled h k e = absurd (omega arith)
map_here z x i (Set c) (Cookie d) h k e = absurd (omega arith)
map_here z x i (Set c) (Owner d) h k e = absurd (omega arith)
map_here z x i (Set c) Enabled h k e = absurd (omega arith)
map_here z x i (Owner c) (Cookie d) h k e = absurd (omega arith)
map_here z x i (Owner c) (Set d) h k e = absurd (omega arith)
map_here z x i (Owner c) Enabled h k e = absurd (omega arith)
map_here z x i Enabled (Cookie d) h k e = absurd (omega arith)
map_here z x i Enabled (Set d) h k e = absurd (omega arith)
map_here z x i Enabled (Owner d) h k e = absurd (omega arith)

mem_cond : (b : Bool) (x y : ℕ) (l : List ℕ) → mem x l ≡ true → mem x (cond b (y ∷ l) l) ≡ true
mem_cond true x y l h = or_right (nat_eq y x) (mem x l) h
mem_cond false x y l h = h

mem_codes : (m : ℕ) (l : List Write) (i : ℕ) (w : Write) → get_elem? l i ≡ some w → map_of w.key ≡ m → mem (code w.key) (codes_in m l) ≡ true
mem_codes m [] i w e f = absurd (some-ne-none w (sym e))
mem_codes m (x ∷ xs) zero w e f = let same = some-injective x w e in
    ap (λ (b : Bool). mem (code w.key) (cond b (code x.key ∷ codes_in m xs) (codes_in m xs))) (eq-eqb (map_of x.key) m (ap (λ (u : Write). map_of u.key) same ∙ f))
    ∙ ap (λ (b : Bool). b || mem (code w.key) (codes_in m xs)) (eq-eqb (code x.key) (code w.key) (ap (λ (u : Write). code u.key) same))
mem_codes m (x ∷ xs) (suc i) w e f = mem_cond (nat_eq (map_of x.key) m) (code w.key) (code x.key) (codes_in m xs) (mem_codes m xs i w e f)

record Source (m : ℕ) (l : List Write) (x : ℕ) : Type 0 where
  place : ℕ
  write : Write
  at : get_elem? l place ≡ some write
  of : map_of write.key ≡ m
  is : code write.key ≡ x

later_source : (m : ℕ) (y : Write) (ys : List Write) (x : ℕ) → Source m ys x → Source m (y ∷ ys) x
later_source m y ys x s = record { place = suc s.place; write = s.write; at = s.at; of = s.of; is = s.is }

codes_mem : (m : ℕ) (l : List Write) (x : ℕ) → mem x (codes_in m l) ≡ true → Source m l x
codes_mem m [] x h = absurd (true≢false (sym h))
codes_mem m (y ∷ ys) x h = dite (ℕ_discrete (map_of y.key) m)
    (λ (e : map_of y.key ≡ m). let k : (nat_eq (code y.key) x || mem x (codes_in m ys)) ≡ true = sym (ap (λ (b : Bool). mem x (cond b (code y.key ∷ codes_in m ys) (codes_in m ys))) (eq-eqb (map_of y.key) m e)) ∙ h in
    dite (ℕ_discrete (code y.key) x) (λ (f : code y.key ≡ x). record { place = 0; write = y; at = refl; of = e; is = f })
    (λ ne. later_source m y ys x (codes_mem m ys x (sym (ap (λ (b : Bool). b || mem x (codes_in m ys)) (ne_eqb (code y.key) x ne)) ∙ k))))
    (λ ne. later_source m y ys x (codes_mem m ys x (sym (ap (λ (b : Bool). mem x (cond b (code y.key ∷ codes_in m ys) (codes_in m ys))) (ne_eqb (map_of y.key) m ne)) ∙ h)))

module _ (z : RegSizes) (places : List ℕ) (journal : List Write) (key : Key) (long : length places ≡ total z) (tidy : AreOfWritten z places journal) where
  -- who holds place i of the map
  holder_in : (i : ℕ) → i < rows z key → get_or places (base z key + i) 0 ≢ 0 → (h : Holder z places journal (base z key + i)) × ((map_of h.key ≡ map_of key) × (code h.key ≡ get_or places (base z key + i) 0))
  holder_in i inside taken = let a = region z key in let h = tidy.holders (base z key + i) (omega arith) taken in let b = h.at in
      (h, (map_here z (place (code h.key) 1 h.turn (rows z h.key)) i h.key key (place-lt (code h.key) 1 h.turn (rows z h.key) b.inside) inside h.here, sym b.is ∙ ap (λ (p : ℕ). get_or places p 0) h.here))

  apart : (i j : ℕ) → i < j → j < rows z key → get_or places (base z key + i) 0 ≢ 0 → get_or places (base z key + i) 0 ≡ get_or places (base z key + j) 0 → ⊥
  apart i j less inside taken same = let a = holder_in i (omega arith) taken in let b = holder_in j inside (λ e. taken (same ∙ e)) in
      let k : (a.0).key ≡ (b.0).key = same_word (a.0).key (b.0).key (a.1.0 ∙ sym b.1.0) (a.1.1 ∙ (same ∙ sym b.1.1)) in
      let t : (a.0).turn ≡ (b.0).turn = at_once z places (b.0).key (a.0).turn (b.0).turn (subst (λ (x : Key). At z places x (a.0).turn) k (a.0).at) (b.0).at in
      let p : spot z (a.0).key (a.0).turn ≡ spot z (b.0).key (b.0).turn = λ q. spot z (k q) (t q) in
      let e : base z key + i ≡ base z key + j = sym (a.0).here ∙ (p ∙ (b.0).here) in omega arith

  -- a written key of the map has one of the map's places
  into_region : (x : ℕ) → Source (map_of key) journal x → (i : ℕ) × ((i < rows z key) × ((get_or places (base z key + i) 0 ≡ x) × (x ≢ 0)))
  into_region x s = let t = tidy.placed s.place s.write s.at in let a = t.1 in let y : ℕ = place (code (s.write).key) 1 t.0 (rows z (s.write).key) in let m = map_base z (s.write).key key s.of in (
    y,
    (
      subst (λ (r : ℕ). y < r) m.1 (place-lt (code (s.write).key) 1 t.0 (rows z (s.write).key) a.inside),
      (subst (λ (b : ℕ). get_or places (b + y) 0 ≡ code (s.write).key) m.0 a.is ∙ s.is, λ e. a.named (s.is ∙ e)),
    ),
  )

  pub all_taken : AllDecided z places key (rows z key) → keys_in journal key ≡ rows z key
  all_taken all = let ks : List ℕ = region_of z places key in let n = region_long z places key long in let at = region_at z places key long in
      let taken : (i : ℕ) → i < rows z key → get_or places (base z key + i) 0 ≢ 0 = λ i h. let t = place-surjective (code key) 1 i (rows z key) h in subst (λ (p : ℕ). get_or places (base z key + p) 0 ≢ 0) t.2 (all t.0 t.1).0 in
      distinct_is ks (codes_in (map_of key) journal)
      (no_twice ks (λ i j less inside e. let k : j < rows z key = omega arith in apart i j less k (taken i (omega arith)) (sym (at i (omega arith)) ∙ (e ∙ at j k))))
      (λ x m. let t = into_region x (codes_mem (map_of key) journal x m) in let inside = t.1.0 in subst (λ (v : ℕ). mem v ks ≡ true) (at t.0 t.1.0 ∙ t.1.1.0) (mem_at ks t.0 (omega arith)))
      (λ x m. let t = at_mem ks x m in let inside = t.1.0 in let i_in : t.0 < rows z key = omega arith in let h = holder_in t.0 i_in (taken t.0 i_in) in let w = (h.0).written in
      let c : code (w.1.0).key ≡ x = ap code w.1.2 ∙ (h.1.1 ∙ (sym (at t.0 i_in) ∙ t.1.1)) in
      subst (λ (v : ℕ). mem v (codes_in (map_of key) journal) ≡ true) c (mem_codes (map_of key) journal w.0 w.1.0 w.1.1 (ap map_of w.1.2 ∙ h.1.0)))
      ∙ n

  -- a place that is free leaves fewer keys
  pub some_free : (i : ℕ) → i < rows z key → get_or places (base z key + i) 0 ≡ 0 → keys_in journal key < rows z key
  some_free i inside free = let ks : List ℕ = region_of z places key in let n = region_long z places key long in let at = region_at z places key long in
      let most : keys_in journal key ≤ length (nonzero ks) = distinct_at_most (nonzero ks) (codes_in (map_of key) journal)
      (nonzero_once ks (λ i j less h ne e. let k : j < rows z key = omega arith in let i_in : i < rows z key = omega arith in apart i j less k (λ f. ne (at i i_in ∙ f)) (sym (at i i_in) ∙ (e ∙ at j k))))
      (λ x m. let t = into_region x (codes_mem (map_of key) journal x m) in let k = t.1.0 in
      nonzero_mem ks x t.1.1.1 (subst (λ (v : ℕ). mem v ks ≡ true) (at t.0 t.1.0 ∙ t.1.1.0) (mem_at ks t.0 (omega arith)))) in
      let zero_in : mem 0 ks ≡ true = subst (λ (v : ℕ). mem v ks ≡ true) (at i inside ∙ free) (mem_at ks i (omega arith)) in
      let short = nonzero_short ks zero_in in omega arith

  -- a key that has a place was written
  pub has_write : (turn : ℕ) → At z places key turn → IsWritten journal key
  has_write turn a = let p_in = spot_below z key turn a.inside in let h = tidy.holders (spot z key turn) p_in (λ e. a.named (sym a.is ∙ e)) in let b = h.at in
      let same : h.key ≡ key = same_key z h.key key h.turn turn b.inside a.inside h.here (sym b.is ∙ (ap (λ (q : ℕ). get_or places q 0) h.here ∙ a.is)) in
      subst (IsWritten journal) same h.written

written_more : (l : List Write) (w : Write) (key : Key) → IsWritten l key → IsWritten (l ++ w ∷ []) key
written_more l w key h = (h.0, (h.1.0, at_longer l (w ∷ []) h.0 h.1.0 h.1.1, h.1.2))

pub tidy_more : (z : RegSizes) (places later : List ℕ) (l : List Write) (w : Write) (turn : ℕ) → At z later w.key turn → Stays places later → ((q : ℕ) → q ≢ spot z w.key turn → get_or later q 0 ≡ get_or places q 0) → AreOfWritten z places l → AreOfWritten z later (l ++ w ∷ [])
tidy_more z places later l w turn a stays others t = record {
  placed = all_snoc z later l w turn a (all_stay z places later l stays t.placed);
  holders = λ p inside taken. dite (ℕ_discrete p (spot z w.key turn))
      (λ (e : p ≡ spot z w.key turn). record { key = w.key; turn = turn; at = a; here = sym e; written = (length l, (w, at_last l w (length l) refl, refl)) })
      (λ ne. let h = t.holders p inside (λ e. taken (others p ne ∙ e)) in record { key = h.key; turn = h.turn; at = at_stays z places later h.key h.turn stays h.at; here = h.here; written = written_more l w h.key h.written });
}

pub tidy_at_first : (z : RegSizes) (places : List ℕ) → ((i : ℕ) → get_or places i 0 ≡ 0) → AreOfWritten z places []
tidy_at_first z places zeros = record { placed = λ i w e. absurd (some-ne-none w (sym e)); holders = λ p _ taken. absurd (taken (zeros p)) }

unspent : (z : RegSizes) (places : List ℕ) (l : List Write) (key : Key) → length places ≡ total z → AreOfWritten z places l → (s : Spot) → IsFound z places key s → IsSpent z l key → ⊥
unspent z places l key long t (Known turn) f spent = let h = has_write z places l key long t turn f in spent.0 h.0 h.1.0 h.1.1 h.1.2
unspent z places l key long t (Free turn) f spent = let a = spent.1 in let b = some_free z places l key long t (place (code key) 1 turn (rows z key)) (place-lt (code key) 1 turn (rows z key) f.0) f.2 in omega arith

pub is_spent : (z : RegSizes) (places : List ℕ) (l : List Write) (key : Key) → length places ≡ total z → ∥ AreOfWritten z places l ∥₁ → AllDecided z places key (rows z key) → IsSpent z l key
is_spent z places l key long t all = (
  λ i w e same. ∥∥₁_elim t (λ x y. absurd x) (λ (h : AreOfWritten z places l). let a = h.placed i w e in nowhere_full z places key all a.0 (subst (λ (k : Key). At z places k a.0) same a.1)),
  ∥∥₁_elim t (ℕ_set (keys_in l key) (rows z key)) (λ (h : AreOfWritten z places l). all_taken z places l key long h all),
)

pub not_spent : (z : RegSizes) (places : List ℕ) (l : List Write) (key : Key) → length places ≡ total z → ∥ AreOfWritten z places l ∥₁ → (s : Spot) → IsFound z places key s → IsSpent z l key → ⊥
not_spent z places l key long t s f spent = ∥∥₁_elim t (λ x y. absurd x) (λ (h : AreOfWritten z places l). unspent z places l key long h s f spent)

-- the codes of a map's keys, and their numbers
module _ (c : ℕ) where
  codes_cookie : (l : List Write) → codes_in 0 l ≡ filter_map (number_in_map (Cookie c)) l
  codes_cookie [] = refl
  codes_cookie (w ∷ ws) = one w.key w.value (codes_cookie ws)
    where
      one : (k : Key) (v : Option ℕ) → codes_in 0 ws ≡ filter_map (number_in_map (Cookie c)) ws → codes_in 0 (record { key = k; value = v } ∷ ws) ≡ filter_map (number_in_map (Cookie c)) (record { key = k; value = v } ∷ ws)
      one (Cookie d) v rest = ap (λ (xs : List ℕ). d ∷ xs) rest
      one (Set d) v rest = rest
      one (Owner d) v rest = rest
      one Enabled v rest = rest

  codes_set : (l : List Write) → codes_in 1 l ≡ map (λ (n : ℕ). n + 1) (filter_map (number_in_map (Set c)) l)
  codes_set [] = refl
  codes_set (w ∷ ws) = one w.key w.value (codes_set ws)
    where
      one : (k : Key) (v : Option ℕ) → codes_in 1 ws ≡ map (λ (n : ℕ). n + 1) (filter_map (number_in_map (Set c)) ws) → codes_in 1 (record { key = k; value = v } ∷ ws) ≡ map (λ (n : ℕ). n + 1) (filter_map (number_in_map (Set c)) (record { key = k; value = v } ∷ ws))
      one (Cookie d) v rest = rest
      one (Set d) v rest = ap (λ (xs : List ℕ). (d + 1) ∷ xs) rest
      one (Owner d) v rest = rest
      one Enabled v rest = rest

  codes_owner : (l : List Write) → codes_in 2 l ≡ map (λ (n : ℕ). n + 1) (filter_map (number_in_map (Owner c)) l)
  codes_owner [] = refl
  codes_owner (w ∷ ws) = one w.key w.value (codes_owner ws)
    where
      one : (k : Key) (v : Option ℕ) → codes_in 2 ws ≡ map (λ (n : ℕ). n + 1) (filter_map (number_in_map (Owner c)) ws) → codes_in 2 (record { key = k; value = v } ∷ ws) ≡ map (λ (n : ℕ). n + 1) (filter_map (number_in_map (Owner c)) (record { key = k; value = v } ∷ ws))
      one (Cookie d) v rest = rest
      one (Set d) v rest = rest
      one (Owner d) v rest = ap (λ (xs : List ℕ). (d + 1) ∷ xs) rest
      one Enabled v rest = rest

nat_eq_next : (a b : ℕ) → nat_eq (a + 1) (b + 1) ≡ nat_eq a b
nat_eq_next a b = dite (ℕ_discrete a b)
    (λ (e : a ≡ b). eq-eqb (a + 1) (b + 1) (ap (λ (n : ℕ). n + 1) e) ∙ sym (eq-eqb a b e))
    (λ ne. ne_eqb (a + 1) (b + 1) (λ e. ne (omega arith)) ∙ sym (ne_eqb a b ne))

mem_next : (x : ℕ) (xs : List ℕ) → mem (x + 1) (map (λ (n : ℕ). n + 1) xs) ≡ mem x xs
mem_next x [] = refl
mem_next x (y ∷ ys) = λ i. nat_eq_next y x i || mem_next x ys i

-- numbers that are all greater by 1 are as many
distinct_next : (xs : List ℕ) → distinct (map (λ (n : ℕ). n + 1) xs) ≡ distinct xs
distinct_next [] = refl
distinct_next (x ∷ xs) = λ i. cond (mem_next x xs i) 0 1 + distinct_next xs i

some_in : (xs : List ℕ) → distinct xs ≡ 1 → (x : ℕ) × (mem x xs ≡ true)
some_in [] e = absurd (omega arith)
some_in (x ∷ xs) e = (x, ap (λ (b : Bool). b || mem x xs) (eq-eqb x x refl))

is_enabled : (k : Key) → map_of k ≡ 3 → k ≡ Enabled
is_enabled (Cookie c) e = absurd (omega arith)
is_enabled (Set c) e = absurd (omega arith)
is_enabled (Owner c) e = absurd (omega arith)
is_enabled Enabled e = refl

-- Enabled is never spent: where one key stands in its map, it is Enabled itself
enabled_unspent : (z : RegSizes) (l : List Write) → IsSpent z l Enabled → ⊥
enabled_unspent z l spent = let t = some_in (codes_in 3 l) spent.1 in let s = codes_mem 3 l t.0 t.1 in spent.0 s.place s.write s.at (is_enabled (s.write).key s.of)

spent_by : (z : RegSizes) (l : List Write) (key : Key) → NeverWritten l key → limit_of z key ≡ Some (rows z key) → keys_in l key ≡ length (keys_in_map key l) → keys_in l key ≡ rows z key → AreKeysSpent z l key
spent_by z l key never limit same all = record { never = never_last l key never; full = limit ∙ ap Some (sym all ∙ same) }

beside : (l : List Write) (key : Key) (n : ℕ) → limit_of no_limits key ≡ Some n → keys_in l key ≡ length (keys_in_map key l)
beside l (Cookie c) n e = ap distinct (codes_cookie c l) ∙ distinct_ascending (filter_map (number_in_map (Cookie c)) l)
beside l (Set c) n e = ap distinct (codes_set c l) ∙ (distinct_next (filter_map (number_in_map (Set c)) l) ∙ distinct_ascending (filter_map (number_in_map (Set c)) l))
beside l (Owner c) n e = ap distinct (codes_owner c l) ∙ (distinct_next (filter_map (number_in_map (Owner c)) l) ∙ distinct_ascending (filter_map (number_in_map (Owner c)) l))
beside l Enabled n e = absurd (none_std n e)

pub says_spent : (z : RegSizes) (l : List Write) (key : Key) → IsSpent z l key → AreKeysSpent z l key
says_spent z l (Cookie c) h = spent_by z l (Cookie c) h.0 refl (beside l (Cookie c) 0 refl) h.1
says_spent z l (Set c) h = spent_by z l (Set c) h.0 refl (beside l (Set c) 0 refl) h.1
says_spent z l (Owner c) h = spent_by z l (Owner c) h.0 refl (beside l (Owner c) 0 refl) h.1
says_spent z l Enabled h = absurd (enabled_unspent z l h)

pub spent_says : (z : RegSizes) (l : List Write) (key : Key) → AreKeysSpent z l key → IsSpent z l key
spent_says z l (Cookie c) h = (last_never l (Cookie c) h.never, beside l (Cookie c) 0 refl ∙ sym (some_std z.cookies (length (keys_in_map (Cookie c) l)) h.full))
spent_says z l (Set c) h = (last_never l (Set c) h.never, beside l (Set c) 0 refl ∙ sym (some_std z.sets (length (keys_in_map (Set c) l)) h.full))
spent_says z l (Owner c) h = (last_never l (Owner c) h.never, beside l (Owner c) 0 refl ∙ sym (some_std z.owners (length (keys_in_map (Owner c) l)) h.full))
spent_says z l Enabled h = absurd (none_std (length (keys_in_map Enabled l)) h.full)

pub found_or_spent : (z : RegSizes) (places words : List ℕ) (l : List Write) (key : Key) → words ≡ places → length places ≡ total z → ∥ AreOfWritten z places l ∥₁ → (r : Option Spot) → MatchOption r (AllDecided z words key (rows z key)) (λ s. IsFound z words key s) → MatchOption r (AreKeysSpent z l key) (λ s. IsFound z places key s)
found_or_spent z places words l key e long t None h = says_spent z l key (is_spent z places l key long t (subst (λ (p : List ℕ). AllDecided z p key (rows z key)) e h))
found_or_spent z places words l key e long t (Some s) h = subst (λ (p : List ℕ). IsFound z p key s) e h

pub room_left : (z : RegSizes) (places words : List ℕ) (l : List Write) (key : Key) → words ≡ places → length places ≡ total z → ∥ AreOfWritten z places l ∥₁ → (r : Option Spot) → MatchOption r (AllDecided z words key (rows z key)) (λ s. IsFound z words key s) → IsSome r → AreKeysSpent z l key → ⊥
room_left z places words l key e long t None h some_ spent = absurd (search rules)
room_left z places words l key e long t (Some s) h some_ spent = not_spent z places l key long t s (subst (λ (p : List ℕ). IsFound z p key s) e h) (spent_says z l key spent)
