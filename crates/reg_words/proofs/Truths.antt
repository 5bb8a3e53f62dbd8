-- The relation `IsLast` says what `last_write` computes.
use Rattle.std.proofs.Common.{◌≡◌, ◌≢◌, ℕ, zero, suc, ◌+◌, ◌-◌, ◌≤◌, max, List, [], ◌∷◌, ◌++◌, length, Bool, true, false, refl, sym, ap, ◌∙◌, subst, arith, append_assoc, append-nil, length-append, lt_of_not-le, true≢false}
use Rattle.std.specs.Prelude.{if◌then◌else◌, slice_get, None, option_and_then}
use mathlib.Core.Option.{some-ne-none}
use mathlib.Core.Logic.{dite}
use native.Mathlib.Decide.{dec_le}
use lib.ListN.{get_elem?}
use Rattle.std.proofs.Math.Seq.{take-length}
use Rattle.acct_base.specs.declared.register.Key.{Key}
use Rattle.acct_base.specs.declared.register.Key.TheVariants.{Cookie, Set, Owner, Enabled}
use Rattle.acct_base.specs.declared.register.Write.{Write}
use Rattle.acct_base.specs.declared.register.Seen.{Seen}
use Rattle.acct_base.specs.Journal.{same_key, last_from, last_write, value_of_write, IsTrueRead}
use Rattle.acct_base.proofs.JournalLemmas.{same_key-self}
use Rattle.reg_words.specs.Places.{code, NeverWritten}
use Rattle.reg_words.specs.Journal.{IsLast, value_at, value_in}
use Rattle.reg_words.proofs.Prefixes.{last_other, last_here}

pub key_true : (a b : Key) → same_key a b ≡ true → a ≡ b
key_true (Cookie c) (Cookie d) e = ap Cookie (search (e, arith))
key_true (Set c) (Set d) e = ap Set (search (e, arith))
key_true (Owner c) (Owner d) e = ap Owner (search (e, arith))
key_true Enabled Enabled e = refl
key_true (Cookie c) (Set d) e = absurd (true≢false (sym e))
key_true (Cookie c) (Owner d) e = absurd (true≢false (sym e))
key_true (Cookie c) Enabled e = absurd (true≢false (sym e))
key_true (Set c) (Cookie d) e = absurd (true≢false (sym e))
key_true (Set c) (Owner d) e = absurd (true≢false (sym e))
key_true (Set c) Enabled e = absurd (true≢false (sym e))
key_true (Owner c) (Cookie d) e = absurd (true≢false (sym e))
key_true (Owner c) (Set d) e = absurd (true≢false (sym e))
key_true (Owner c) Enabled e = absurd (true≢false (sym e))
key_true Enabled (Cookie d) e = absurd (true≢false (sym e))
key_true Enabled (Set d) e = absurd (true≢false (sym e))
key_true Enabled (Owner d) e = absurd (true≢false (sym e))

key_false : (a b : Key) → same_key a b ≡ false → b ≢ a
key_false a b e same = true≢false (sym (same_key-self a) ∙ (ap (same_key a) (sym same) ∙ e))

found_next : (p : List Write) (w : Write) (key : Key) (n found : ℕ) → suc (length p) ≡ n → IsLast p key found → (b : Bool) → same_key key w.key ≡ b → IsLast (p ++ w ∷ []) key (if b then n else found)
found_next p w key n found long r true e = let same = key_true key w.key e in let more : length p + 1 ≡ n = omega arith in
    subst (λ (x : Key × ℕ). IsLast (p ++ w ∷ []) x.0 x.1) (λ i. (sym same i, more i)) (last_here p w)
found_next p w key n found long r false e = last_other p w key found (key_false key w.key e) r

pub last_is : (p ws : List Write) (key : Key) (n found : ℕ) → suc (length p) ≡ n → IsLast p key found → IsLast (p ++ ws) key (last_from found n key ws)
last_is p [] key n found long r = subst (λ (l : List Write). IsLast l key found) (sym (append-nil p)) r
last_is p (w ∷ ws) key n found long r = subst (λ (l : List Write). IsLast l key (last_from found n key (w ∷ ws))) (append_assoc p (w ∷ []) ws)
    (last_is (p ++ w ∷ []) ws key (suc n) (if same_key key w.key then n else found) (let e = length-append p (w ∷ []) in omega arith) (found_next p w key n found long r (same_key key w.key) refl))

none_yet : (key : Key) → IsLast [] key 0
none_yet key = record { within = omega arith; later = λ i w _ e. absurd (some-ne-none w (sym e)); here = λ h. absurd (omega arith) }

pub last_unique : (l : List Write) (key : Key) (u v : ℕ) → IsLast l key u → IsLast l key v → u ≡ v
last_unique l key u v a b = dite (dec_le u v)
    (λ (le : u ≤ v). dite (dec_le v u) (λ (ge : v ≤ u). omega arith) (λ more. let h = lt_of_not-le more in let t = b.here (omega arith) in absurd (a.later (v - 1) t.0 (omega arith) t.1 t.2)))
    (λ less. let h = lt_of_not-le less in let t = a.here (omega arith) in absurd (b.later (u - 1) t.0 (omega arith) t.1 t.2))

whole : (l : List Write) (key : Key) → last_from 0 1 key l ≡ last_write l (length l) key
whole l key = ap (last_from 0 1 key) (sym (take-length l))

-- the number that is computed is the last one's
pub last_write_is : (l : List Write) (key : Key) → IsLast l key (last_write l (length l) key)
last_write_is l key = subst (IsLast l key) (whole l key) (last_is [] l key 1 0 refl (none_yet key))

pub is_last_write : (l : List Write) (key : Key) (v : ℕ) → IsLast l key v → v ≡ last_write l (length l) key
is_last_write l key v r = last_unique l key v (last_write l (length l) key) r (last_write_is l key)

pub never_last : (l : List Write) (key : Key) → NeverWritten l key → last_write l (length l) key ≡ 0
never_last l key h = sym (is_last_write l key 0 record { within = omega arith; later = λ i w _ e. h i w e; here = λ h. absurd (omega arith) })

pub last_never : (l : List Write) (key : Key) → last_write l (length l) key ≡ 0 → NeverWritten l key
last_never l key e = let r : IsLast l key 0 = subst (IsLast l key) e (last_write_is l key) in λ i w f. r.later i w (omega arith) f

value_of_item : (l : List Write) (i : ℕ) → value_in (get_elem? l i) ≡ option_and_then (λ (w : Write). w.value) (slice_get l i)
value_of_item [] i = refl
value_of_item (x ∷ xs) zero = refl
value_of_item (x ∷ xs) (suc i) = value_of_item xs i

pub value_of_write_is : (l : List Write) (v : ℕ) → value_at l v ≡ value_of_write l v
value_of_write_is l zero = refl
value_of_write_is l (suc i) = value_of_item l i

-- what a reader learns is true of the writes that it then knows
pub is_true : (before after : List Write) (key : Key) (seen : Seen) → length after ≡ max (length before) seen.version → IsLast after key seen.version → seen.value ≡ value_at after seen.version
    → IsTrueRead after (length before) key seen
is_true before after key seen long last value = let version : seen.version ≡ last_write after (max (length before) seen.version) key =
    subst (λ (n : ℕ). seen.version ≡ last_write after n key) long (is_last_write after key seen.version last) in record {
      in_journal = omega arith;
      last = version;
      value = value ∙ (value_of_write_is after seen.version ∙ ap (value_of_write after) version);
    }

-- one more write that is not to Cookie(0)
pub unnamed_more : (l later : List Write) (w : Write) → w.key ≢ Cookie 0 → last_write l (length l) (Cookie 0) ≡ 0 → later ≡ l ++ w ∷ [] → last_write later (length later) (Cookie 0) ≡ 0
unnamed_more l later w other e same = subst (λ (m : List Write). last_write m (length m) (Cookie 0) ≡ 0) (sym same)
    (sym (is_last_write (l ++ w ∷ []) (Cookie 0) 0 (last_other l w (Cookie 0) 0 other (subst (IsLast l (Cookie 0)) e (last_write_is l (Cookie 0))))))

cookie_zero : (key : Key) → code key ≡ 0 → key ≡ Cookie 0
cookie_zero (Cookie c) e = ap Cookie e
cookie_zero (Set u) e = absurd (omega arith)
cookie_zero (Owner u) e = absurd (omega arith)
cookie_zero Enabled e = absurd (omega arith)

-- a read of Cookie(0) that finds nothing is true
pub unnamed_true : (l : List Write) (key : Key) → code key ≡ 0 → last_write l (length l) (Cookie 0) ≡ 0 → IsTrueRead l (length l) key (record { version = 0; value = None })
unnamed_true l key free e = subst (λ (k : Key). IsTrueRead l (length l) k (record { version = 0; value = None })) (sym (cookie_zero key free))
    (is_true l l (Cookie 0) (record { version = 0; value = None }) (let n : ℕ = length l in let e : n ≡ max n 0 = omega arith in e) (subst (IsLast l (Cookie 0)) e (last_write_is l (Cookie 0))) refl)
