-- Places: no two keys have one, and what a place says stays so.
use Rattle.std.proofs.Common.{◌≡◌, ℕ, ◌+◌, ◌≤◌, ◌<◌, List, [], ◌∷◌, ◌++◌, get_or, set, refl, sym, ap, ◌∙◌, subst, ⊎_elim, arith, get_or-set_other, lt_of_not-le}
use mathlib.Core.Logic.{dite}
use native.Mathlib.Decide.{dec_le}
use Rattle.acct_base.specs.declared.register.Key.{Key}
use Rattle.acct_base.specs.declared.register.Key.TheVariants.{Cookie, Set, Owner, Enabled}
use Rattle.acct_base.specs.declared.sizes.RegSizes.{RegSizes}
use Rattle.reg_words.specs.Places.{code, rows, base, total, spot, Decided, AllDecided, At, Owned, AllPlaced, NeverWritten, Stays}
use Rattle.row_probe.specs.Places.{place}
use Rattle.row_probe.proofs.Turns.{place-lt, place-injective}
use Rattle.acct_base.specs.declared.register.Write.{Write}
use mathlib.Core.Option.{some}
use mathlib.Core.Logic.{∥∥₁_elim}
use lib.ListN.{get_elem?}
use Rattle.atomic_table.proofs.Lists.{at_snoc}

pub region : (z : RegSizes) (key : Key) → base z key + rows z key ≤ total z
region z (Cookie c) = omega arith
region z (Set u) = omega arith
region z (Owner u) = omega arith
region z Enabled = omega arith

pub spot_below : (z : RegSizes) (key : Key) (turn : ℕ) → turn < rows z key → spot z key turn < total z
spot_below z key turn h = let a = place-lt (code key) 1 turn (rows z key) h in let b = region z key in omega arith

pub spot_once : (z : RegSizes) (key : Key) (t u : ℕ) → t < rows z key → u < rows z key → spot z key t ≡ spot z key u → t ≡ u
spot_once z key t u h i e = place-injective (code key) 1 t u (rows z key) h i (let x : ℕ = place (code key) 1 t (rows z key) in let y : ℕ = place (code key) 1 u (rows z key) in let e' : base z key + x ≡ base z key + y = e in omega arith)

-- two keys with one place and one word are one key
module _ (z : RegSizes) (x y : ℕ) where
  same_map : (a b : Key) → x < rows z a → y < rows z b → base z a + x ≡ base z b + y → code a ≡ code b → a ≡ b
  same_map (Cookie c) (Cookie d) h i e f = ap Cookie f
  same_map (Set c) (Set d) h i e f = ap Set (omega arith)
  same_map (Owner c) (Owner d) h i e f = ap Owner (omega arith)
  same_map Enabled Enabled h i e f = refl
  same_map (Cookie c) (Set d) h i e f = absurd (omega arith)
  same_map (Cookie c) (Owner d) h i e f = absurd (omega arith)
  same_map (Cookie c) Enabled h i e f = absurd (omega arith)
  same_map (Set c) (Cookie d) h i e f = absurd (omega arith)
  same_map (Set c) (Owner d) h i e f = absurd (omega arith)
  same_map (Set c) Enabled h i e f = absurd (omega arith)
  same_map (Owner c) (Cookie d) h i e f = absurd (omega arith)
  same_map (Owner c) (Set d) h i e f = absurd (omega arith)
  same_map (Owner c) Enabled h i e f = absurd (omega arith)
  same_map Enabled (Cookie d) h i e f = absurd (omega arith)
  same_map Enabled (Set d) h i e f = absurd (omega arith)
  same_map Enabled (Owner d) h i e f = absurd (omega arith)

pub same_key : (z : RegSizes) (a b : Key) (t u : ℕ) → t < rows z a → u < rows z b → spot z a t ≡ spot z b u → code a ≡ code b → a ≡ b
same_key z a b t u h i e f = same_map z (place (code a) 1 t (rows z a)) (place (code b) 1 u (rows z b)) a b (place-lt (code a) 1 t (rows z a) h) (place-lt (code b) 1 u (rows z b) i) e f

pub stays_set : (places : List ℕ) (p x : ℕ) → get_or places p 0 ≡ 0 → Stays places (set places p x)
stays_set places p x free q taken = get_or-set_other places p q x 0 (λ e. taken (ap (λ (n : ℕ). get_or places n 0) e ∙ free))

pub decided_stays : (z : RegSizes) (places later : List ℕ) (key : Key) (turn : ℕ) → Stays places later → Decided z places key turn → Decided z later key turn
decided_stays z places later key turn stays d = let e = stays (spot z key turn) d.0 in (λ n. d.0 (sym e ∙ n), λ n. d.1 (sym e ∙ n))

pub at_stays : (z : RegSizes) (places later : List ℕ) (key : Key) (turn : ℕ) → Stays places later → At z places key turn → At z later key turn
at_stays z places later key turn stays a = record {
  inside = a.inside;
  named = a.named;
  is = stays (spot z key turn) (λ n. a.named (sym a.is ∙ n)) ∙ a.is;
  earlier = λ u h. decided_stays z places later key u stays (a.earlier u h);
}

-- a key has one place
pub at_once : (z : RegSizes) (places : List ℕ) (key : Key) (t u : ℕ) → At z places key t → At z places key u → t ≡ u
at_once z places key t u a b = dite (dec_le u t)
    (λ (le : u ≤ t). dite (dec_le t u) (λ (ge : t ≤ u). omega arith) (λ no. absurd ((a.earlier u (lt_of_not-le no)).1 b.is)))
    (λ no. absurd ((b.earlier t (lt_of_not-le no)).1 a.is))

-- a free place at this turn, and every earlier turn decided: the key has no place
pub nowhere : (z : RegSizes) (places : List ℕ) (key : Key) (turn : ℕ) → AllDecided z places key turn → get_or places (spot z key turn) 0 ≡ 0 → (u : ℕ) → At z places key u → ⊥
nowhere z places key turn all free u a = dite (dec_le turn u)
    (λ (le : turn ≤ u). dite (dec_le u turn) (λ (ge : u ≤ turn). let e : turn ≡ u = omega arith in a.named (sym a.is ∙ subst (λ (n : ℕ). get_or places (spot z key n) 0 ≡ 0) e free))
    (λ no. (a.earlier turn (lt_of_not-le no)).0 free))
    (λ no. (all u (lt_of_not-le no)).1 a.is)

pub nowhere_full : (z : RegSizes) (places : List ℕ) (key : Key) → AllDecided z places key (rows z key) → (u : ℕ) → At z places key u → ⊥
nowhere_full z places key all u a = (all u a.inside).1 a.is

pub more_decided : (z : RegSizes) (places : List ℕ) (key : Key) (turn : ℕ) → AllDecided z places key turn → Decided z places key turn → AllDecided z places key (turn + 1)
more_decided z places key turn all now u h = dite (dec_le turn u) (λ (le : turn ≤ u). let e : turn ≡ u = omega arith in subst (Decided z places key) e now) (λ no. all u (lt_of_not-le no))

pub owned_stays : (z : RegSizes) (places later : List ℕ) (p : ℕ) → Stays places later → Owned z places p → Owned z later p
owned_stays z places later p stays o = record { key = o.key; turn = o.turn; at = at_stays z places later o.key o.turn stays o.at; here = o.here }

-- who has a key's word at one of the key's places is the key
pub owner_is : (z : RegSizes) (places : List ℕ) (key : Key) (turn : ℕ) → turn < rows z key → get_or places (spot z key turn) 0 ≡ code key → Owned z places (spot z key turn) → At z places key turn
owner_is z places key turn inside is o = let a = o.at in
    let same : o.key ≡ key = same_key z o.key key o.turn turn a.inside inside o.here (sym a.is ∙ (ap (λ (q : ℕ). get_or places q 0) o.here ∙ is)) in
    let b : At z places key o.turn = subst (λ (x : Key). At z places x o.turn) same a in
    let e : o.turn ≡ turn = spot_once z key o.turn turn b.inside inside (ap (λ (x : Key). spot z x o.turn) (sym same) ∙ o.here) in
    subst (At z places key) e b

pub all_stay : (z : RegSizes) (places later : List ℕ) (l : List Write) → Stays places later → AllPlaced z places l → AllPlaced z later l
all_stay z places later l stays h i w e = let t = h i w e in (t.0, at_stays z places later w.key t.0 stays t.1)

pub all_snoc : (z : RegSizes) (places : List ℕ) (l : List Write) (w : Write) (turn : ℕ) → At z places w.key turn → AllPlaced z places l → AllPlaced z places (l ++ w ∷ [])
all_snoc z places l w turn a h i u e = ⊎_elim (λ (x : get_elem? l i ≡ some u). h i u x) (λ (x : w ≡ u). (turn, subst (λ (y : Write). At z places y.key turn) x a)) (at_snoc l w u i e)

pub never : (z : RegSizes) (places : List ℕ) (l : List Write) (key : Key) → ∥ AllPlaced z places l ∥₁ → AllDecided z places key (rows z key) → NeverWritten l key
never z places l key h all i w e same = ∥∥₁_elim h (λ x y. absurd x) (λ (p : AllPlaced z places l). let t = p i w e in nowhere_full z places key all t.0 (subst (λ (k : Key). At z places k t.0) same t.1))
