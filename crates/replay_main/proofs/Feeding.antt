-- What feeding a cutter leaves of a piece.
use Rattle.std.proofs.Common.{◌≡◌, ℕ, zero, suc, ◌+◌, ◌-◌, ◌≤◌, List, [], ◌∷◌, ◌++◌, length, take, drop, refl, sym, ap, subst, ◌∙◌, arith, append_assoc, append-nil, length-append, Option}
use Rattle.std.specs.Prelude.{codes}
use Rattle.std.proofs.lemmas.List.{drop-take, take-append-drop, length-take}
use Rattle.std.specs.Io.KnownBytes.{Consumes}
use Rattle.std.proofs.KnownBytes.{Consumes-trans}
use Rattle.script_text.specs.declared.cutter.Fed.{Fed}
use Rattle.script_text.specs.declared.cutter.Fed.TheVariants as step
use Rattle.script_text.specs.Faults.{BeginsSection}
use Rattle.script_text.specs.Cuts.{Feeds}
use Rattle.replay_main.specs.declared.parts.Parts.{Parts}
use Rattle.replay_main.specs.Incoming.{unfed, ahead}

none_taken : (items : List ℕ) (n : ℕ) → take (n - n) items ≡ []
none_taken items n = let none : n - n ≡ 0 = omega arith in ap (λ (k : ℕ). take k items) none

drop_nothing : (n : ℕ) → drop {A = ℕ} n [] ≡ []
drop_nothing zero = refl
drop_nothing (suc n) = refl

drop_twice : (n m : ℕ) (l : List ℕ) → drop m (drop n l) ≡ drop (n + m) l
drop_twice zero m l = ap (λ (k : ℕ). drop k l) (let e : m ≡ 0 + m = omega arith in e)
drop_twice (suc n) m [] = drop_nothing m ∙ sym (drop_nothing (suc n + m))
drop_twice (suc n) m (x ∷ l) = drop_twice n m l ∙ ap (λ (k : ℕ). drop k (x ∷ l)) (let e : suc (n + m) ≡ suc n + m = omega arith in e)

drop_within : (n k : ℕ) (l : List ℕ) → n ≤ k → drop n (take k l) ≡ take (k - n) (drop n l)
drop_within n k l le = ap (λ (j : ℕ). drop n (take j l)) (let e : k ≡ n + (k - n) = omega (arith, le) in e) ∙ drop-take n (k - n) l

-- the same bytes, read another way
pub fed_from : (old new bytes items : List ℕ) (fed filled : ℕ) (f : Fed) → bytes ≡ items → Feeds old (take (filled - fed) (drop fed bytes)) f new → Feeds old (take (filled - fed) (drop fed items)) f new
fed_from old new bytes items fed filled f same feeds = subst (λ (b : List ℕ). Feeds old (take (filled - fed) (drop fed b)) f new) same feeds

-- nothing is left of it
pub all_fed : (old new items : List ℕ) (fed filled : ℕ) (f : Fed) → f ≡ step.More → Feeds old (take (filled - fed) (drop fed items)) f new
    → (take (filled - filled) (drop filled items) ≡ []) × (new ++ take (filled - filled) (drop filled items) ≡ old ++ take (filled - fed) (drop fed items))
all_fed old new items fed filled f is feeds =
    let e = subst (λ (f : Fed). Feeds old (take (filled - fed) (drop fed items)) f new) is feeds in
    let none = none_taken (drop filled items) filled in
    (none, ap (λ (r : List ℕ). new ++ r) none ∙ append-nil new ∙ e.0)

module _ (old new items : List ℕ) (fed filled taken : ℕ) (part : List ℕ) (f : Fed) (is : f ≡ step.Part taken part) (within : fed ≤ filled)
    (feeds : Feeds old (take (filled - fed) (drop fed items)) f new) where
  piece : List ℕ
  piece = take (filled - fed) (drop fed items)

  left : List ℕ
  left = take (filled - (fed + taken)) (drop (fed + taken) items)

  cut : Feeds old piece (step.Part taken part) new
  unfolding piece
  cut = subst (λ (f : Fed). Feeds old (take (filled - fed) (drop fed items)) f new) is feeds

  few : taken ≤ filled - fed
  unfolding piece cut
  few = let le = cut.0 in omega (arith, le, length-take (filled - fed) (drop fed items))

  pub within_piece : fed + taken ≤ filled
  within_piece = omega (arith, few, within)

  behind : drop taken piece ≡ left
  unfolding piece left
  behind =
      drop_within taken (filled - fed) (drop fed items) few
      ∙ ap (λ (l : List ℕ). take (filled - fed - taken) l) (drop_twice fed taken items)
      ∙ ap (λ (k : ℕ). take k (drop (fed + taken) items)) (let e : filled - fed - taken ≡ filled - (fed + taken) = omega arith in e)

  pub rest_fed : old ++ take (filled - fed) (drop fed items) ≡ part ++ (new ++ take (filled - (fed + taken)) (drop (fed + taken) items))
  unfolding piece left cut
  rest_fed =
      ap (λ (p : List ℕ). old ++ p) (sym (take-append-drop taken piece))
      ∙ sym (append_assoc old (take taken piece) (drop taken piece))
      ∙ ap (λ (p : List ℕ). p ++ drop taken piece) cut.1.0.is
      ∙ append_assoc part (codes "section\n") (drop taken piece)
      ∙ ap (λ (p : List ℕ). part ++ (p ++ drop taken piece)) (sym cut.1.1)
      ∙ ap (λ (r : List ℕ). part ++ (new ++ r)) behind

  pub rest_begins : BeginsSection (new ++ take (filled - (fed + taken)) (drop (fed + taken) items))
  unfolding cut
  rest_begins = (_, ap (λ (p : List ℕ). p ++ take (filled - (fed + taken)) (drop (fed + taken) items)) cut.1.1)

-- ---- reading on

-- The bytes that were read since the reader stood so.
abbrev pub ReadSince : Option (List ℕ) → Option (List ℕ) → Parts → Parts → Type 0
ReadSince was now first p = (got : List ℕ) × Consumes was now got × (ahead p ≡ ahead first ++ got) × (p.count ≡ first.count + length got)

pub read_on : (was now then : Option (List ℕ)) (first mid cut new : Parts) → ReadSince was now first mid → (unfed cut ≡ []) × (ahead cut ≡ ahead mid) → cut.count ≡ mid.count → new.cutter ≡ cut.cutter
    → Consumes now then (unfed new) → new.count ≡ cut.count + length (unfed new) → ReadSince was then first new
read_on was now then first mid cut new (got, read, is, counted) (none, same) kept cutter more longer =
    let held : cut.cutter ≡ ahead first ++ got = sym (append-nil cut.cutter) ∙ ap (λ (u : List ℕ). cut.cutter ++ u) (sym none) ∙ same ∙ is in (
      got ++ unfed new,
      Consumes-trans was now then got (unfed new) read more,
      ap (λ (h : List ℕ). h ++ unfed new) (cutter ∙ held) ∙ append_assoc (ahead first) got (unfed new),
      omega (arith, counted, kept, longer, length-append got (unfed new)),
    )
