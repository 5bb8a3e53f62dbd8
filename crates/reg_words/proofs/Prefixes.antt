-- Beginnings of a journal, and its last writes.
use Rattle.std.proofs.Common.{◌≡◌, ◌≢◌, ℕ, zero, suc, ◌+◌, ◌-◌, ◌≤◌, ◌<◌, List, [], ◌∷◌, ◌++◌, length, take, drop, leb, cond, true, false, refl, sym, ap, ◌∙◌, subst, ⊎_elim, ◌⊎◌, inl, inr, arith, append_assoc, length-append, append-nil, get_or, replicate, lt_of_not-le}
use Rattle.std.specs.Prelude.{Option, Some, None}
use Rattle.std.proofs.Math.Seq.{take-append_seam, take-append-add}
use Rattle.std.proofs.lemmas.List.{take-append-drop, get_or-replicate, length-replicate}
use mathlib.Core.Option.{some, some-injective, some-ne-none}
use mathlib.Core.Logic.{dite}
use native.Mathlib.Decide.{dec_le}
use lib.ListN.{get_elem?}
use Rattle.atomic_table.proofs.Lists.{at_longer, at_last, at_snoc}
use Rattle.acct_base.specs.declared.register.Write.{Write}
use Rattle.acct_base.specs.declared.register.Key.{Key}
use Rattle.reg_words.specs.Registers.{IsPrefix}
use Rattle.reg_words.specs.Journal.{IsLast, value_in, value_at, has, longer, shorter}

pub at_bound : {A : Type 0} (l : List A) (i : ℕ) (a : A) → get_elem? l i ≡ some a → i < length l
at_bound [] i a e = absurd (some-ne-none a (sym e))
at_bound (x ∷ xs) zero a e = omega arith
at_bound (x ∷ xs) (suc i) a e = let h = at_bound xs i a e in omega arith

pub there : {A : Type 0} (l : List A) (i : ℕ) → i < length l → (a : A) × (get_elem? l i ≡ some a)
there [] i h = absurd (omega arith)
there (x ∷ xs) zero h = (x, refl)
there (x ∷ xs) (suc i) h = there xs i (omega arith)

pub at_end : {A : Type 0} (l : List A) (a b : A) (j : ℕ) → get_elem? (l ++ a ∷ []) j ≡ some b → (get_elem? l j ≡ some b) ⊎ ((j ≡ length l) × (a ≡ b))
at_end [] a b zero e = inr (refl, some-injective a b e)
at_end [] a b (suc j) e = absurd (some-ne-none b (sym e))
at_end (x ∷ xs) a b zero e = inl e
at_end (x ∷ xs) a b (suc j) e = ⊎_elim (λ (t : get_elem? xs j ≡ some b). inl t) (λ (t : (j ≡ length xs) × (a ≡ b)). let h = t.0 in inr (omega arith, t.1)) (at_end xs a b j e)

pub prefix_self : (l : List Write) → IsPrefix l l
prefix_self l = ([], sym (append-nil l))

pub prefix_snoc : (a l : List Write) (w : Write) → IsPrefix a l → IsPrefix a (l ++ w ∷ [])
prefix_snoc a l w p = (p.0 ++ w ∷ [], ap (λ (z : List Write). z ++ w ∷ []) p.1 ∙ append_assoc a p.0 (w ∷ []))

pub prefix_length : (a l : List Write) → IsPrefix a l → length a ≤ length l
prefix_length a l p = let e : length l ≡ length a + length p.0 = ap length p.1 ∙ length-append a p.0 in omega arith

pub prefix_at : (a l : List Write) (i : ℕ) (w : Write) → IsPrefix a l → get_elem? a i ≡ some w → get_elem? l i ≡ some w
prefix_at a l i w p e = subst (λ (z : List Write). get_elem? z i ≡ some w) (sym p.1) (at_longer a p.0 i w e)

pub prefix_back : (a l : List Write) (i : ℕ) (w : Write) → IsPrefix a l → i < length a → get_elem? l i ≡ some w → get_elem? a i ≡ some w
prefix_back a l i w p inside e = let t = there a i inside in t.1 ∙ (sym (prefix_at a l i t.0 p t.1) ∙ e)

pub prefix_take : (a l : List Write) (m : ℕ) → IsPrefix a l → length a ≤ m → IsPrefix a (take m l)
prefix_take a l m p h = (
  take (m - length a) p.0,
  let e : length a + (m - length a) ≡ m = omega arith in
      subst (λ (z : ℕ). take z l ≡ a ++ take (m - length a) p.0) e (ap (take (length a + (m - length a))) p.1 ∙ take-append-add a p.0 (m - length a)),
)

pub take_prefix : (l : List Write) (m : ℕ) → IsPrefix (take m l) l
take_prefix l m = (drop m l, sym (take-append-drop m l))

pub prefix_short : (a b l : List Write) → IsPrefix a l → IsPrefix b l → length a ≤ length b → IsPrefix a b
prefix_short a b l p q h = subst (IsPrefix a) (ap (take (length b)) q.1 ∙ take-append_seam b q.0) (prefix_take a l (length b) p h)

pub same_value : (a l : List Write) (v : ℕ) → IsPrefix a l → v ≤ length a → value_at a v ≡ value_at l v
same_value a l zero p h = refl
same_value a l (suc i) p h = let t = there a i (omega arith) in ap value_in t.1 ∙ sym (ap value_in (prefix_at a l i t.0 p t.1))

pub last_before : (a l : List Write) (key : Key) (v : ℕ) → IsPrefix a l → v ≤ length a → IsLast l key v → IsLast a key v
last_before a l key v p h r = record {
  within = h;
  later = λ i w above e. r.later i w above (prefix_at a l i w p e);
  here = λ some_write. let t = r.here some_write in (t.0, prefix_back a l (v - 1) t.0 p (omega arith) t.1, t.2);
}

pub last_other : (l : List Write) (w : Write) (key : Key) (v : ℕ) → w.key ≢ key → IsLast l key v → IsLast (l ++ w ∷ []) key v
last_other l w key v other r = record {
  within = let a = r.within in let e : length (l ++ w ∷ []) ≡ length l + 1 = length-append l (w ∷ []) in omega arith;
  later = λ i u above e. ⊎_elim (λ (t : get_elem? l i ≡ some u). r.later i u above t) (λ (t : w ≡ u). λ (same : u.key ≡ key). other (ap (λ (z : Write). z.key) t ∙ same)) (at_snoc l w u i e);
  here = λ some_write. let t = r.here some_write in (t.0, at_longer l (w ∷ []) (v - 1) t.0 t.1, t.2);
}

pub last_here : (l : List Write) (w : Write) → IsLast (l ++ w ∷ []) w.key (length l + 1)
last_here l w = let e : length (l ++ w ∷ []) ≡ length l + 1 = length-append l (w ∷ []) in record {
  within = omega arith;
  later = λ i u above at. let b = at_bound (l ++ w ∷ []) i u at in absurd (omega arith);
  here = λ _. (w, at_last l w ((length l + 1) - 1) (omega arith), refl);
}

pub value_here : (l : List Write) (w : Write) (n : ℕ) → n ≡ length l + 1 → value_at (l ++ w ∷ []) n ≡ w.value
value_here l w zero e = absurd (omega arith)
value_here l w (suc n) e = ap value_in (at_last l w n (omega arith))

pub longer_prefix : (a b l : List Write) → IsPrefix a l → IsPrefix b l → IsPrefix (longer a b) l
longer_prefix a b l p q = elim (leb (length b) (length a)) as (λ t. IsPrefix (cond t a b) l) [ true ↦ p | false ↦ q ]

pub shorter_prefix : (a b l : List Write) → IsPrefix a l → IsPrefix b l → IsPrefix (shorter a b) l
shorter_prefix a b l p q = elim (leb (length b) (length a)) as (λ t. IsPrefix (cond t b a) l) [ true ↦ q | false ↦ p ]

pub shorter_below : (a b : List Write) → length (shorter a b) ≤ length (longer a b)
shorter_below a b = grind arith

pub longer_whole : (a b : List Write) → length b ≤ length a → longer a b ≡ a
longer_whole a b h = grind arith

pub shorter_whole : (a b : List Write) → length b ≤ length a → shorter a b ≡ b
shorter_whole a b h = grind arith

-- the write whose value is there
pub record Holder (l : List Write) (key : Key) (v : ℕ) : Type 0 where
  pub write : Write
  pub value : ℕ
  pub some_write : 0 < v
  pub at : get_elem? l (v - 1) ≡ some write
  pub of : write.key ≡ key
  pub is : write.value ≡ Some value

holder_of : (l : List Write) (key : Key) (v : ℕ) (u : Write) → 0 < v → get_elem? l (v - 1) ≡ some u → u.key ≡ key → (o : Option ℕ) → u.value ≡ o → has o ≡ 1 → Holder l key v
holder_of l key v u some_write at of None e h = absurd (omega arith)
holder_of l key v u some_write at of (Some x) e h = record { write = u; value = x; some_write = some_write; at = at; of = of; is = e }

pub value_is : (l : List Write) (v : ℕ) (u : Write) → 0 < v → get_elem? l (v - 1) ≡ some u → value_at l v ≡ u.value
value_is l zero u h e = absurd (omega arith)
value_is l (suc i) u h e = let back : suc i - 1 ≡ i = omega arith in ap value_in (subst (λ (z : ℕ). get_elem? l z ≡ some u) back e)

pub holder : (l : List Write) (key : Key) (v : ℕ) → IsLast l key v → has (value_at l v) ≡ 1 → Holder l key v
holder l key zero r h = absurd (omega arith)
holder l key (suc i) r h = let t = r.here (omega arith) in holder_of l key (suc i) t.0 (omega arith) t.1 t.2 (t.0).value refl (ap has (sym (value_is l (suc i) t.0 (omega arith) t.1)) ∙ h)

past : (l : List ℕ) (i : ℕ) → length l ≤ i → get_or l i 0 ≡ 0
past [] i h = refl
past (x ∷ xs) zero h = absurd (omega arith)
past (x ∷ xs) (suc i) h = past xs i (omega arith)

out_of : (l : List ℕ) (n i : ℕ) → length l ≡ n → n ≤ i → get_or l i 0 ≡ 0
out_of l n i e h = past l i (omega arith)

pub all_zero : (words : List ℕ) (n : ℕ) → words ≡ replicate n 0 → (i : ℕ) → get_or words i 0 ≡ 0
all_zero words n e i = subst (λ (z : List ℕ). get_or z i 0 ≡ 0) (sym e) (dite (dec_le n i)
    (out_of (replicate n 0) n i (length-replicate n 0))
    (λ inside. get_or-replicate n i 0 0 (lt_of_not-le inside)))
