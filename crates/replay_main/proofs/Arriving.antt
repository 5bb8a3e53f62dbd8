-- A script that comes in part by part, and the text that it is.
use Rattle.std.proofs.Common.{◌≡◌, ◌⊎◌, ℕ, zero, suc, ◌-◌, ◌≤◌, Bool, true, false, List, [], ◌∷◌, ◌++◌, length, take, refl, sym, ap, subst, ◌∙◌, arith, inl, inr, append_assoc, append-nil, length-append, Option, Some, None}
use Rattle.std.specs.Prelude.{codes}
use Rattle.std.proofs.Math.Seq.{take-append-add}
use Rattle.std.specs.Io.KnownBytes.{Consumes}
use Rattle.std.proofs.KnownBytes.{Consumes-trans}
use Rattle.script_text.specs.declared.header.Header.{Header}
use Rattle.script_text.specs.declared.section.Section.{Section}
use Rattle.script_text.specs.declared.fault.Which.{Which}
use Rattle.script_text.specs.declared.fault.ScriptFault.{ScriptFault}
use Rattle.script_text.specs.declared.fault.ScriptFault.TheVariants as script
use Rattle.script_text.specs.declared.place.Place.TheVariants.{Start}
use Rattle.script_text.specs.Parts.{section_text}
use Rattle.script_text.specs.Limits.{no_tally}
use Rattle.script_text.specs.Faults.{BeginsSection, FailsAt, SyntaxAt, LimitAt}
use Rattle.script_text.specs.Script.{IsNextSection, script_counts, looked_at}
use Rattle.script_text.specs.Cuts.{EndsLine}
use Rattle.script_text.specs.Laws.{Follows, SyntaxGoesOn, LimitGoesOn}
use Rattle.script_text.proofs.Lines.{NoFeed, no_feed_within}
use Rattle.script_text.proofs.CutLines.{word_lacks}
use Rattle.captures.specs.declared.section.ResolveFault.{ResolveFault}
use Rattle.captures.specs.declared.section.ResolveFault.TheVariants as resolving
use Rattle.captures.specs.Calls.{SectionCalls}
use Rattle.captures.specs.Sections.{CaptureIsBad, NoPacketAt}
use Rattle.replay_main.specs.declared.fault.Fault.{Fault}
use Rattle.replay_main.specs.declared.parts.Parts.{Parts}
use Rattle.replay_main.specs.declared.incoming.Incoming.{Incoming}
use Rattle.replay_main.specs.Faults.{script_fault, resolve_fault}
use Rattle.replay_main.specs.Judged.{IsJudged, Decides}
use Rattle.replay_main.specs.Incoming.{ahead, IsOver, ComesNext, EndsUnless, TakesPart, HasGiven, HasCome, SectionFails}
use Rattle.replay_main.specs.Reached.{IsRead}
use Rattle.replay_main.specs.Run.{WasSo, DecidesOn, IsOfText}
use Rattle.replay_main.proofs.Judging.{header_fault, section_fault, calls_fault}

-- ---- a part that follows on a cut begins a section

append_split : (p x q y : List ℕ) → p ++ x ≡ q ++ y → ((d : List ℕ) × (q ≡ p ++ d)) ⊎ ((d : List ℕ) × (p ≡ q ++ d))
append_split [] x q y e = inl (q, refl)
append_split (a ∷ p) x [] y e = inr (a ∷ p, refl)
append_split (a ∷ p) x (b ∷ q) y e = elim (append_split p x q y (cc)) [
  | inl (d, is) ↦ inl (d, (let same : b ≡ a = cc in rw (same, is) refl))
  | inr (d, is) ↦ inr (d, (let same : a ≡ b = cc in rw (same, is) refl))
]

-- a line feed in a line is its last byte
feed_ends : (g d w : List ℕ) → NoFeed w → w ++ 10 ∷ [] ≡ g ++ 10 ∷ d → d ≡ []
feed_ends [] d [] lacks e = cc
feed_ends [] d (x ∷ w) lacks e = absurd (no_feed_within [] w (let same : x ≡ 10 = cc in subst (λ (b : ℕ). NoFeed (b ∷ w)) same lacks))
feed_ends (y ∷ g) d [] lacks e = absurd (let z = ap length e in omega (arith, length-append g (10 ∷ d)))
feed_ends (y ∷ g) d (x ∷ w) lacks e = feed_ends g d w lacks.1 (cc)

part_begins : (part x y : List ℕ) → EndsLine part → part ++ x ≡ codes "section\n" ++ y → BeginsSection part
part_begins part x y (g, ends) e = elim (append_split part x (codes "section\n") y e) [
  | inl (d, is) ↦ (
      let none : d ≡ [] = feed_ends g d (codes "section") word_lacks (is ∙ ap (λ (t : List ℕ). t ++ d) ends ∙ append_assoc g (10 ∷ []) d) in
      ([], sym (append-nil part) ∙ ap (λ (t : List ℕ). part ++ t) (sym none) ∙ sym is ∙ sym (append-nil (codes "section\n")))
      )
  | inr (d, is) ↦ (d, is)
]

pub takes_begins : (was now : Option (List ℕ)) (old new : Parts) (part : List ℕ) (last : Bool) → TakesPart was now old new part last → BeginsSection (ahead old) → BeginsSection part
takes_begins was now old new part last t (m, is) = pick last t.ends t.next
  where
    whole : part ++ ahead new ≡ codes "section\n" ++ (m ++ t.got)
    whole = sym t.bytes ∙ ap (λ (b : List ℕ). b ++ t.got) is ∙ append_assoc (codes "section\n") m t.got

    pick : (last : Bool) → EndsUnless last part → ComesNext last now new → BeginsSection part
    pick true ends next = (m ++ t.got, sym (append-nil part) ∙ ap (λ (b : List ℕ). part ++ b) (sym next.0) ∙ whole)
    pick false ends next = part_begins part (ahead new) (m ++ t.got) ends whole

-- ---- what came in so far

given_more : (was now then : Option (List ℕ)) (old new : Parts) (front part : List ℕ) (last : Bool) → HasGiven was now old front → TakesPart now then old new part last → HasGiven was then new (front ++ part)
given_more was now then old new front part last g t =
    let same : (front ++ ahead old) ++ t.got ≡ (front ++ part) ++ ahead new =
    append_assoc front (ahead old) t.got ∙ ap (λ (b : List ℕ). front ++ b) t.bytes ∙ sym (append_assoc front part (ahead new)) in
    record {
      read = subst (Consumes was then) same (Consumes-trans was now then (front ++ ahead old) t.got g.read t.read);
      counted = omega (arith, t.counted, g.counted, ap length same, length-append (front ++ ahead old) t.got);
    }

pub given_none : (was : Option (List ℕ)) (p : Parts) → ahead p ≡ [] → p.count ≡ 0 → HasGiven was was p []
given_none was p none count = record {
  read = subst (Consumes was was) (sym none) (nothing was);
  counted = count ∙ sym (ap length none);
}
  where
    nothing : (was : Option (List ℕ)) → Consumes was was []
    nothing None = tt
    nothing (Some t) = refl

pub come_first : (was now : Option (List ℕ)) (old : Parts) (i : Incoming) (part : List ℕ) → ahead old ≡ [] → old.count ≡ 0 → TakesPart was now old i.parts part i.is_over → HasCome was now i part
come_first was now old i part none count t = record {
  given = given_more was was now old i.parts [] part i.is_over (given_none was old none count) t;
  reader = t.reader;
  next = t.next;
}

pub come_more : (was now then : Option (List ℕ)) (old new : Incoming) (front part : List ℕ) → HasCome was now old front → TakesPart now then old.parts new.parts part new.is_over → HasCome was then new (front ++ part)
come_more was now then old new front part h t = record {
  given = given_more was now then old.parts new.parts front part new.is_over h.given t;
  reader = t.reader;
  next = t.next;
}

-- all was read
pub come_over : (was now : Option (List ℕ)) (i : Incoming) (text : List ℕ) → HasCome was now i text → i.is_over ≡ true → length text ≤ 268435456 → IsRead was now text
come_over was now i text h over few =
    let next : IsOver now i.parts = subst (λ (b : Bool). ComesNext b now i.parts) over h.next in
    let whole : text ++ ahead i.parts ≡ text = ap (λ (b : List ℕ). text ++ b) next.0 ∙ append-nil text in
    record {
      read = subst (Consumes was now) whole h.given.read;
      end = elim next.1 [
        | inl end ↦ end
        | inr full ↦ absurd (omega (arith, full, few, h.given.counted, ap length whole))
      ];
      within = few;
    }

-- ---- the text that a source had

take_past : (n : ℕ) (a v : List ℕ) → length a ≤ n → take n (a ++ v) ≡ a ++ take (n - length a) v
take_past n a v few = ap (λ (k : ℕ). take k (a ++ v)) (omega (arith, few)) ∙ take-append-add a v (n - length a)

-- what is looked at of it goes on behind a part that was taken
looked_on : (text front : List ℕ) (now then : Option (List ℕ)) (old new : Parts) (part : List ℕ) (last : Bool) → HasGiven (Some text) now old front → TakesPart now then old new part last
    → (more : List ℕ) × Follows part more × (looked_at text ≡ front ++ (part ++ more))
looked_on text front now None old new part last g t = absurd (given_more (Some text) now None old new front part last g t).read
looked_on text front now (Some left) old new part last g t =
    let given = given_more (Some text) now (Some left) old new front part last g t in
    let read = (front ++ part) ++ ahead new in
    let few : length read ≤ 268435457 = omega (arith, given.counted, t.reader.few) in
    let behind = take (268435457 - length read) left in (
      ahead new ++ behind,
      follows last t.ends t.next (λ full. omega (arith, given.counted, full)),
      ap (take 268435457) given.read ∙ take_past 268435457 read left few ∙ append_assoc (front ++ part) (ahead new) behind ∙ append_assoc front part (ahead new ++ behind),
    )
  where
    none_taken : (n : ℕ) → n ≡ 0 → take n left ≡ []
    none_taken n is = ap (λ (k : ℕ). take k left) is

    none_left : (n : ℕ) → left ≡ [] → take n left ≡ []
    none_left zero is = refl
    none_left (suc n) is = ap (take (suc n)) is

    nothing : (b : List ℕ) → ahead new ≡ [] → b ≡ [] → ahead new ++ b ≡ []
    nothing b none is = ap (λ (a : List ℕ). a ++ b) none ∙ is

    follows : (last : Bool) → EndsUnless last part → ComesNext last (Some left) new → (new.count ≡ 268435457 → 268435457 - length ((front ++ part) ++ ahead new) ≡ 0)
        → Follows part (ahead new ++ take (268435457 - length ((front ++ part) ++ ahead new)) left)
    follows true ends (none, inl end) full = inl (nothing _ none (none_left _ end))
    follows true ends (none, inr many) full = inl (nothing _ none (none_taken _ (full many)))
    follows false ends (m, begins) full =
        let behind = take (268435457 - length ((front ++ part) ++ ahead new)) left in
        inr (ends, (m ++ behind, ap (λ (b : List ℕ). b ++ behind) begins ∙ append_assoc (codes "section\n") m behind))

-- ---- faults of the text

pub header_decides : SyntaxGoesOn → LimitGoesOn → (was now : Option (List ℕ)) (old new : Parts) (part : List ℕ) (last : Bool) (f : ScriptFault) (e : Fault) → ahead old ≡ [] → old.count ≡ 0
    → TakesPart was now old new part last → e ≡ script_fault f
    → ((line : ℕ) → f ≡ script.Syntax line → FailsAt Start no_tally part 1 line SyntaxAt)
    → ((w : Which) (line : ℕ) → f ≡ script.Limit w line → FailsAt Start no_tally part 1 line (LimitAt w)) → IsOfText e → WasSo (DecidesOn e) was
header_decides goes limits None now old new part last f e none count t is syntax limit of = tt
header_decides goes limits (Some text) now old new part last f e none count t is syntax limit of =
    let on = looked_on text [] (Some text) now old new part last (given_none (Some text) old none count) t in
    subst (λ (text : List ℕ). Decides text e) (sym on.2) (header_fault goes limits part on.0 f e is on.1 syntax limit of)

pub section_decides : SyntaxGoesOn → LimitGoesOn → (was now then : Option (List ℕ)) (old : Incoming) (new : Parts) (front : List ℕ) (h : Header) (ss : List Section) (calls : List SectionCalls) (e : Fault)
    → HasCome was now old front → IsJudged front h ss calls → old.counts ≡ script_counts h ss → SectionFails now then old new e → WasSo (DecidesOn e) was
section_decides goes limits None now then old new front h ss calls e come judged are fails = tt
section_decides goes limits (Some text) now then old new front h ss calls e come judged are fails =
    let begins : BeginsSection (ahead old.parts) = subst (λ (b : Bool). ComesNext b now old.parts) fails.open_before come.next in
    let on = looked_on text front now then old.parts new fails.part fails.is_last come.given fails.takes in
    subst (λ (text : List ℕ). Decides text e) (sym on.2)
    (section_fault goes limits front fails.part on.0 h ss calls old.counts e judged are (takes_begins now then old.parts new fails.part fails.is_last fails.takes begins) on.1 fails.fails)

pub calls_decide : (was now then : Option (List ℕ)) (old : Incoming) (new : Incoming) (front : List ℕ) (h : Header) (ss : List Section) (calls : List SectionCalls) (s : Section) (f : ResolveFault) (e : Fault)
    → HasCome was now old front → IsJudged front h ss calls → old.counts ≡ script_counts h ss → old.is_over ≡ false → TakesPart now then old.parts new.parts (section_text s) new.is_over
    → IsNextSection old.counts s → e ≡ resolve_fault f
    → ((line place : ℕ) → f ≡ resolving.CaptureBad line place → CaptureIsBad s line place) → ((line : ℕ) → f ≡ resolving.NoPacket line → NoPacketAt s line) → IsOfText e → WasSo (DecidesOn e) was
calls_decide None now then old new front h ss calls s f e come judged are open_before t next is bad missing of = tt
calls_decide (Some text) now then old new front h ss calls s f e come judged are open_before t next is bad missing of =
    let begins : BeginsSection (ahead old.parts) = subst (λ (b : Bool). ComesNext b now old.parts) open_before come.next in
    let on = looked_on text front now then old.parts new.parts (section_text s) new.is_over come.given t in
    subst (λ (text : List ℕ). Decides text e) (sym on.2)
    (calls_fault front on.0 h ss calls old.counts s f e is judged are next (takes_begins now then old.parts new.parts (section_text s) new.is_over t begins) on.1 bad missing of)
