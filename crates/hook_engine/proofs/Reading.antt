-- Reads one after another, and a call's reads after its front.
use Rattle.std.proofs.Common.{◌≡◌, ◌≤◌, ℕ, List, [], ◌∷◌, ◌++◌, length, refl, sym, ap, subst, ◌∙◌, append_assoc, arith}
use Rattle.std.specs.Prelude.{max, filter}
use Rattle.std.proofs.Math.Nat.{le-max_right}
use Rattle.std.proofs.lemmas.List.Elements.{filter-append}
use Rattle.acct_base.specs.declared.register.Key.{Key}
use Rattle.acct_base.specs.declared.register.Seen.{Seen}
use Rattle.acct_base.specs.declared.register.Write.{Write}
use Rattle.acct_base.specs.Journal.{AreTrueReads, known_after}
use Rattle.acct_base.specs.Laws.{ReadsInTurnLast}
use Rattle.acct_base.proofs.JournalLemmas.{AreTrueReads-append}
use Rattle.reg_words.specs.Seats.{ReaderState}
use Rattle.hook_engine.specs.Passes.{Begins, is_recorded}
use Rattle.hook_engine.specs.Steps.{DidRead}

known_after-append : (known : ℕ) (xs ys : List (Key × Seen)) → known_after known (xs ++ ys) ≡ known_after (known_after known xs) ys
known_after-append known [] ys = refl
known_after-append known (x ∷ xs) ys = known_after-append (max known x.1.version) xs ys

known_after_grows : (known : ℕ) (xs : List (Key × Seen)) → known ≤ known_after known xs
known_after_grows known [] = omega arith
known_after_grows known (x ∷ xs) = omega (arith, known_after_grows (max known x.1.version) xs)

pub begins_then : {A : Type 0} (a b c : List A) → Begins a b → Begins b c → Begins a c
begins_then a b c h k = (h.0 ++ k.0, k.1 ∙ ap (λ z. z ++ k.0) h.1 ∙ append_assoc a h.0 k.0)

-- reads, and then more reads
pub did_then : ReadsInTurnLast → (a b c : ReaderState) (xs ys : List (Key × Seen)) → DidRead a b xs → DidRead b c ys → DidRead a c (xs ++ ys)
did_then last a b c xs ys h k = record {
  from = k.from ∙ h.from;
  are_true = AreTrueReads-append c.known (length a.known) xs ys
      (subst (λ (ws : List Write). AreTrueReads ws (length a.known) xs) (sym k.knew.1) (last b.known k.knew.0 (length a.known) xs h.are_true))
      (subst (λ (n : ℕ). AreTrueReads c.known n ys) h.seen_is k.are_true);
  seen_is = k.seen_is ∙ ap (λ (n : ℕ). known_after n ys) h.seen_is ∙ sym (known_after-append (length a.known) xs ys);
  knew = begins_then a.known b.known c.known h.knew k.knew;
  recorded = k.recorded ∙ ap (λ (rs : List (Key × Seen)). rs ++ filter is_recorded ys) h.recorded ∙ append_assoc a.reads (filter is_recorded xs) (filter is_recorded ys) ∙ ap (λ (rs : List (Key × Seen)). a.reads ++ rs) (sym (filter-append is_recorded xs ys));
  loads = k.loads ∙ h.loads;
  loaded = k.loaded ∙ h.loaded;
}

-- reads after a load of the front, by one who knew what `before` knows
pub record ReadFrom (before after : ReaderState) (front : ℕ) (reads : List (Key × Seen)) : Type 0 where
  pub front_from : length before.known ≤ front
  pub are_true : AreTrueReads after.known front reads
  pub seen_is : length after.known ≡ known_after front reads
  pub knew : Begins before.known after.known
  pub recorded : after.reads ≡ before.reads ++ filter is_recorded reads

pub from_front : (a b c : ReaderState) (found front : ℕ) (reads : List (Key × Seen)) → front ≡ found → found ≡ max b.loaded (length a.known) → length b.known ≡ found → Begins a.known b.known → b.reads ≡ a.reads
    → DidRead b c reads → ReadFrom a c front reads
from_front a b c found front reads is answer long grows same did = record {
  front_from = subst (λ (n : ℕ). length a.known ≤ n) (sym (is ∙ answer)) (le-max_right b.loaded (length a.known));
  are_true = subst (λ (n : ℕ). AreTrueReads c.known n reads) (long ∙ sym is) did.are_true;
  seen_is = did.seen_is ∙ ap (λ (n : ℕ). known_after n reads) (long ∙ sym is);
  knew = begins_then a.known b.known c.known grows did.knew;
  recorded = did.recorded ∙ ap (λ (rs : List (Key × Seen)). rs ++ filter is_recorded reads) same;
}
