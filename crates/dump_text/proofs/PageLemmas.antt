-- What two calls put on a page, one after the other.
use Rattle.std.proofs.Common.{◌≡◌, ℕ, ◌+◌, ◌≤◌, ◌<◌, true, false, List, [], ◌∷◌, ◌++◌, length, take, get_or, append_assoc, append-nil, refl, sym, ap, subst, ◌∙◌, arith}
use Rattle.std.specs.Prelude.{Option, Result, Ok, Err, OnOk, OnErr}
use Rattle.std.specs.List.{flat_map}
use Rattle.std.proofs.KnownBytes.{Appends-nil, Appends-trans}
use Rattle.std.proofs.lemmas.Grind.{flat_map-append}
use Rattle.std.proofs.lemmas.List.{take_more, take_all}
use mathlib.Core.Logic.{inl, inr}
use mathlib.Core.Bool.{true≢false}
use Rattle.acct_base.proofs.Keys.{decided}
use Rattle.std.specs.Io.KnownBytes.{Appends}
use Rattle.outside.specs.Outside.{Rose, AppendsPrefix}
use Rattle.dump_text.specs.declared.page.Page.{Page}
use Rattle.dump_text.specs.Pages.{Puts}

rose_later : (a b c : ℕ) → Rose a b → b ≤ c → Rose a c
rose_later a b c r le = omega (arith, r, le)

rose_after : (a b c : ℕ) → a ≤ b → Rose b c → Rose a c
rose_after a b c le r = omega (arith, r, le)

module _ {K : Type 0} {written : K → Option (List ℕ)} {faults : K → ℕ} where
  -- the sink took all of the first text that it will get, since no write failed
  chain_works : (a b c : Page K) (s t : List ℕ) → Puts written faults a b s → Puts written faults b c t → b.has_failed ≡ false → Puts written faults a c (s ++ t)
  chain_works a b c s t p q works = record {
    same_sink = q.same_sink ∙ p.same_sink;
    same_buffer = q.same_buffer ∙ p.same_buffer;
    front = p.front ++ q.front;
    rest = q.rest;
    whole = sym (append_assoc a.buffer.now s t) ∙ ap (λ (x : List ℕ). x ++ t) p.whole ∙ append_assoc p.front p.rest t
        ∙ ap (λ (x : List ℕ). p.front ++ (x ++ t)) (sym (p.waits works).0) ∙ ap (λ (x : List ℕ). p.front ++ x) q.whole ∙ sym (append_assoc p.front q.front q.rest);
    wrote = Appends-trans (written a.sink.now) (written b.sink.now) (written c.sink.now) p.front q.front p.wrote q.wrote;
    waits = λ ok. ((q.waits ok).0, (p.waits works).1);
    stopped = λ failed. absurd (true≢false (sym (p.stopped failed).1 ∙ works));
    cause = λ failed. elim (q.cause failed) [ inl before ↦ absurd (true≢false (sym before ∙ works)) | inr rose ↦ inr (rose_after (faults a.sink.now) (faults b.sink.now) (faults c.sink.now) p.count rose) ];
    count = omega (arith, p.count, q.count);
  }

  -- a write failed, and the second text is lost
  chain_failed : (a b c : Page K) (s t : List ℕ) → Puts written faults a b s → Puts written faults b c t → b.has_failed ≡ true → Puts written faults a c (s ++ t)
  chain_failed a b c s t p q failed = record {
    same_sink = q.same_sink ∙ p.same_sink;
    same_buffer = q.same_buffer ∙ p.same_buffer;
    front = p.front ++ q.front;
    rest = p.rest ++ t;
    whole = sym (append_assoc a.buffer.now s t) ∙ ap (λ (x : List ℕ). x ++ t) p.whole ∙ append_assoc p.front p.rest t
        ∙ ap (λ (x : List ℕ). x ++ (p.rest ++ t)) (sym (append-nil p.front) ∙ ap (λ (x : List ℕ). p.front ++ x) (sym (q.stopped failed).0));
    wrote = Appends-trans (written a.sink.now) (written b.sink.now) (written c.sink.now) p.front q.front p.wrote q.wrote;
    waits = λ ok. absurd (true≢false (sym (q.stopped failed).1 ∙ ok));
    stopped = λ before. (ap (λ (x : List ℕ). x ++ q.front) (p.stopped before).0 ∙ (q.stopped failed).0, (q.stopped failed).1);
    cause = λ _. elim (p.cause failed) [ inl before ↦ inl before | inr rose ↦ inr (rose_later (faults a.sink.now) (faults b.sink.now) (faults c.sink.now) rose q.count) ];
    count = omega (arith, p.count, q.count);
  }

  pub chain : {a b c : Page K} {s t : List ℕ} → Puts written faults a b s → Puts written faults b c t → Puts written faults a c (s ++ t)
  chain {a} {b} {c} {s} {t} p q = elim (decided b.has_failed) [
    | inl failed ↦ chain_failed a b c s t p q failed
    | inr works ↦ chain_works a b c s t p q works
  ]

  -- nothing was put yet
  pub puts_nothing : (a : Page K) → Puts written faults a a []
  puts_nothing a = record {
    same_sink = refl;
    same_buffer = refl;
    front = [];
    rest = a.buffer.now;
    whole = append-nil a.buffer.now;
    wrote = Appends-nil (written a.sink.now);
    waits = λ ok. (refl, ok);
    stopped = λ failed. (refl, failed);
    cause = λ failed. inl failed;
    count = omega arith;
  }

  -- the text of one item more
  pub puts_more : {X : Type 0} {a b c : Page K} (f : X → List ℕ) (xs : List X) (i : ℕ) (x : X) → i < length xs →
      Puts written faults a b (flat_map f (take i xs)) → Puts written faults b c (f (get_or xs i x)) → Puts written faults a c (flat_map f (take (i + 1) xs))
  puts_more {X} {a} {b} {c} f xs i x lt p q =
      subst (λ (text : List ℕ). Puts written faults a c text)
      (sym (ap (flat_map f) (take_more xs i x lt) ∙ flat_map-append f (take i xs) (get_or xs i x ∷ [])
      ∙ ap (λ (text : List ℕ). flat_map f (take i xs) ++ text) (append-nil (f (get_or xs i x)))))
      (chain p q)

  pub puts_item : {X : Type 0} {a b c : Page K} (f : X → List ℕ) (xs : List X) (i : ℕ) (x : X) → i < length xs → x ≡ get_or xs i x →
      Puts written faults a b (flat_map f (take i xs)) → Puts written faults b c (f x) → Puts written faults a c (flat_map f (take (i + 1) xs))
  puts_item {X} {a} {b} {c} f xs i x lt is p q = puts_more f xs i x lt p (subst (λ (y : X). Puts written faults b c (f y)) is q)

  -- the text of all items
  pub puts_all : {X : Type 0} {a b : Page K} (f : X → List ℕ) (xs : List X) (i : ℕ) → length xs ≤ i → Puts written faults a b (flat_map f (take i xs)) → Puts written faults a b (flat_map f xs)
  puts_all {X} {a} {b} f xs i le p = subst (λ (ys : List X). Puts written faults a b (flat_map f ys)) (take_all i xs le) p

  -- all that was put is written
  pub all_written : (a b c : Page K) (text : List ℕ) → a.buffer.now ≡ [] → Puts written faults a b text → Puts written faults b c [] → c.has_failed ≡ false → c.buffer.now ≡ [] →
      Appends (written a.sink.now) (written c.sink.now) text
  all_written a b c text empty p q works none =
      let both = chain p q in
      let front : both.front ≡ text =
      sym (append-nil both.front) ∙ ap (λ (x : List ℕ). both.front ++ x) (sym none ∙ (both.waits works).0) ∙ sym both.whole ∙ ap (λ (x : List ℕ). x ++ (text ++ [])) empty ∙ append-nil text in
      subst (λ (x : List ℕ). Appends (written a.sink.now) (written c.sink.now) x) front both.wrote

  -- a front of what was put is written
  pub front_written : (a b c : Page K) (text : List ℕ) → a.buffer.now ≡ [] → Puts written faults a b text → Puts written faults b c [] → AppendsPrefix (written a.sink.now) (written c.sink.now) text
  front_written a b c text empty p q =
      let both = chain p q in
      (both.front, both.rest, sym (ap (λ (x : List ℕ). x ++ (text ++ [])) empty ∙ append-nil text) ∙ both.whole, both.wrote)

-- what follows from the answer
pub on_ok : {T E P Q : Type 0} (r : Result T E) → OnOk r P → (P → Q) → OnOk r Q
on_ok (Ok x) p f = f p
on_ok (Err e) p f = tt

pub on_err : {T E Q : Type 0} (r : Result T E) → Q → OnErr r Q
on_err (Ok x) q = tt
on_err (Err e) q = q
