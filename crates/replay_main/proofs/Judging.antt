-- A text that is judged part by part.
use Rattle.std.proofs.Common.{◌≡◌, ℕ, ◌+◌, ◌≤◌, List, [], ◌∷◌, ◌++◌, length, refl, sym, ap, subst, ◌∙◌, arith, inl, inr, append_assoc}
use Rattle.std.specs.Prelude.{codes}
use Rattle.std.specs.List.{AllZip}
use Rattle.std.proofs.lemmas.List.{append-nil}
use Rattle.script_text.specs.declared.header.Header.{Header}
use Rattle.script_text.specs.declared.section.Section.{Section}
use Rattle.script_text.specs.declared.limits.Counts.{Counts}
use Rattle.script_text.specs.declared.fault.Which.{Which}
use Rattle.script_text.specs.declared.fault.ScriptFault.{ScriptFault}
use Rattle.script_text.specs.declared.fault.ScriptFault.TheVariants as script
use Rattle.script_text.specs.declared.place.Place.TheVariants.{Start, Next}
use Rattle.script_text.specs.Parts.{header_text, section_text}
use Rattle.script_text.specs.Limits.{no_tally, tally_before, header_counts, counts_after}
use Rattle.script_text.specs.Faults.{BeginsSection, IsNextPart, FailsAt, SyntaxAt, LimitAt}
use Rattle.script_text.specs.Script.{IsFirstHeader, IsNextSection, script_text, script_counts}
use Rattle.script_text.specs.Laws.{ScriptGrows, Follows, SyntaxGoesOn, LimitGoesOn}
use Rattle.replay_main.proofs.Cutting.{script_bytes}
use Rattle.captures.specs.declared.section.ResolveFault.{ResolveFault}
use Rattle.captures.specs.declared.section.ResolveFault.TheVariants as resolving
use Rattle.captures.specs.Calls.{SectionCalls}
use Rattle.captures.specs.Sections.{AreCalls, CaptureIsBad, NoPacketAt}
use Rattle.replay_main.specs.declared.fault.Fault.{Fault}
use Rattle.replay_main.specs.declared.fault.Fault.TheVariants as fault
use Rattle.replay_main.specs.Faults.{script_fault, resolve_fault}
use Rattle.replay_main.specs.Judged.{IsJudged, IsJudgedTo, Decides}
use Rattle.replay_main.specs.Run.{IsOfText}
use Rattle.replay_main.specs.Incoming.{FailsIn}
use Rattle.replay_main.specs.Reached.{IsWithin, IsCounted, IsCheckedAs}

zip_push : {A B : Type 0} (R : A → B → Type 0) (xs : List A) (ys : List B) (x : A) (y : B) → AllZip R xs ys → R x y → AllZip R (xs ++ x ∷ []) (ys ++ y ∷ [])
zip_push R [] [] x y h r = (r, tt)
zip_push R [] (b ∷ ys) x y h r = absurd h
zip_push R (a ∷ xs) [] x y h r = absurd h
zip_push R (a ∷ xs) (b ∷ ys) x y h r = (h.0, zip_push R xs ys x y h.1 r)

-- ---- what was judged

script_whole : (front : List ℕ) (h : Header) (ss : List Section) (calls : List SectionCalls) → IsJudged front h ss calls → front ≡ script_text h ss
script_whole front h ss calls judged = judged.read ∙ append-nil (script_text h ss)

-- the header
pub header_judged : (h : Header) → IsFirstHeader h → IsJudged (header_text h) h [] []
header_judged h is = record {
  script = record { header_is = is; sections_are = tt };
  read = sym (append-nil (header_text h)) ∙ ap (λ (t : List ℕ). t ++ []) (sym (append-nil (header_text h)));
  calls_are = tt;
  next = inl refl;
}

-- a section more
pub section_judged : ScriptGrows → (front : List ℕ) (h : Header) (ss : List Section) (calls : List SectionCalls) (s : Section) (c : SectionCalls)
    → IsJudged front h ss calls → IsNextSection (script_counts h ss) s → AreCalls s c → IsJudged (front ++ section_text s) h (ss ++ s ∷ []) (calls ++ c ∷ [])
section_judged grows front h ss calls s c judged is are =
    let grown = grows h ss s judged.script is in
    record {
      script = grown.0;
      read = ap (λ (t : List ℕ). t ++ section_text s) (script_whole front h ss calls judged) ∙ sym grown.1.0 ∙ sym (append-nil (script_text h (ss ++ s ∷ [])));
      calls_are = zip_push AreCalls ss calls s c judged.calls_are are;
      next = inl refl;
    }

pub section_counts : ScriptGrows → (h : Header) (ss : List Section) (s : Section) (front : List ℕ) (calls : List SectionCalls) (before now : Counts) → IsJudged front h ss calls
    → before ≡ script_counts h ss → IsNextSection before s → now ≡ counts_after before s → now ≡ script_counts h (ss ++ s ∷ [])
section_counts grows h ss s front calls before now judged was is counted =
    let grown = grows h ss s judged.script (subst (λ (k : Counts). IsNextSection k s) was is) in
    counted ∙ ap (λ (k : Counts). counts_after k s) was ∙ sym grown.1.1

pub counted_first : (h : Header) (counts : Counts) → IsFirstHeader h → counts ≡ header_counts h → IsWithin counts → IsCounted (header_text h) counts
counted_first h counts is counted within = record {
  header = h;
  sections = [];
  calls = [];
  judged = header_judged h is;
  counts_are = counted;
  within = within;
}

pub counted_more : ScriptGrows → (front : List ℕ) (before now : Counts) (s : Section) (c : SectionCalls) → IsCounted front before → IsNextSection before s
    → now ≡ counts_after before s → IsWithin now → AreCalls s c → IsCounted (front ++ section_text s) now
counted_more grows front before now s c at is counted within are = record {
  header = at.header;
  sections = at.sections ++ s ∷ [];
  calls = at.calls ++ c ∷ [];
  judged = section_judged grows front at.header at.sections at.calls s c at.judged (subst (λ (k : Counts). IsNextSection k s) at.counts_are is) are;
  counts_are = section_counts grows at.header at.sections s front at.calls before now at.judged at.counts_are is counted;
  within = within;
}

pub checked_whole : (text : List ℕ) (counts : Counts) → IsCounted text counts → IsCheckedAs text counts
checked_whole text counts at = record { header = at.header; sections = at.sections; calls = at.calls; judged = at.judged; counts_are = at.counts_are }

-- what was judged passes no limit on bytes
pub judged_short : (text : List ℕ) (h : Header) (ss : List Section) (calls : List SectionCalls) (counts : Counts) → IsJudged text h ss calls → counts ≡ script_counts h ss
    → IsWithin counts → length text ≤ 268435456
judged_short text h ss calls counts judged are within =
    let bytes : counts.bytes ≡ (script_counts h ss).bytes = ap (λ (k : Counts). k.bytes) are in
    omega (arith, ap length (script_whole text h ss calls judged), script_bytes h ss, bytes, within.limits.bytes)

pub counted_short : (text : List ℕ) (counts : Counts) → IsCounted text counts → length text ≤ 268435456
counted_short text counts at = judged_short text at.header at.sections at.calls counts at.judged at.counts_are at.within

-- ---- faults

-- a script that goes on
judged_on : (front rest : List ℕ) (h : Header) (ss : List Section) (calls : List SectionCalls) → IsJudged front h ss calls → IsNextPart rest → IsJudgedTo (front ++ rest) h ss calls rest
judged_on front rest h ss calls judged next = record {
  script = judged.script;
  read = ap (λ (t : List ℕ). t ++ rest) (script_whole front h ss calls judged);
  calls_are = judged.calls_are;
  next = next;
}

begins_on : (part more : List ℕ) → BeginsSection part → BeginsSection (part ++ more)
begins_on part more (m, is) = (m ++ more, ap (λ (t : List ℕ). t ++ more) is ∙ append_assoc (codes "section\n") m more)

next_from : (part more : List ℕ) → Follows part more → IsNextPart more
next_from part more (inl none) = inl none
next_from part more (inr (ends, begins)) = inr begins

pub header_fault : SyntaxGoesOn → LimitGoesOn → (part more : List ℕ) (f : ScriptFault) (e : Fault) → e ≡ script_fault f → Follows part more
    → ((line : ℕ) → f ≡ script.Syntax line → FailsAt Start no_tally part 1 line SyntaxAt)
    → ((w : Which) (line : ℕ) → f ≡ script.Limit w line → FailsAt Start no_tally part 1 line (LimitAt w)) → IsOfText e → Decides (part ++ more) e
header_fault goes limits part more f e is follows syntax limit of = subst (λ (e : Fault). Decides (part ++ more) e) (sym is) (pick f syntax limit (subst IsOfText is of))
  where
    pick : (f : ScriptFault) → ((line : ℕ) → f ≡ script.Syntax line → FailsAt Start no_tally part 1 line SyntaxAt)
        → ((w : Which) (line : ℕ) → f ≡ script.Limit w line → FailsAt Start no_tally part 1 line (LimitAt w)) → IsOfText (script_fault f) → Decides (part ++ more) (script_fault f)
    pick (script.Syntax line) syntax limit of = inl (goes Start no_tally part more 1 line follows (syntax line refl))
    pick (script.Limit w line) syntax limit of = inl (limits w Start no_tally part more 1 line follows (limit w line refl))
    pick script.Memory syntax limit of = absurd of

pub fails_in : (before : Counts) (part : List ℕ) (f : ScriptFault) (e : Fault) → e ≡ script_fault f
    → ((line : ℕ) → f ≡ script.Syntax line → FailsAt Next (tally_before before) part (before.lines + 1) line SyntaxAt)
    → ((w : Which) (line : ℕ) → f ≡ script.Limit w line → FailsAt Next (tally_before before) part (before.lines + 1) line (LimitAt w)) → IsOfText e
    → FailsIn (tally_before before) (before.lines + 1) part e
fails_in before part f e is syntax limit of = subst (λ (e : Fault). FailsIn (tally_before before) (before.lines + 1) part e) (sym is) (pick f syntax limit (subst IsOfText is of))
  where
    pick : (f : ScriptFault) → ((line : ℕ) → f ≡ script.Syntax line → FailsAt Next (tally_before before) part (before.lines + 1) line SyntaxAt)
        → ((w : Which) (line : ℕ) → f ≡ script.Limit w line → FailsAt Next (tally_before before) part (before.lines + 1) line (LimitAt w)) → IsOfText (script_fault f)
        → FailsIn (tally_before before) (before.lines + 1) part (script_fault f)
    pick (script.Syntax line) syntax limit of = syntax line refl
    pick (script.Limit w line) syntax limit of = limit w line refl
    pick script.Memory syntax limit of = absurd of

pub section_fault : SyntaxGoesOn → LimitGoesOn → (front part more : List ℕ) (h : Header) (ss : List Section) (calls : List SectionCalls) (before : Counts) (e : Fault)
    → IsJudged front h ss calls → before ≡ script_counts h ss → BeginsSection part → Follows part more → FailsIn (tally_before before) (before.lines + 1) part e → Decides (front ++ (part ++ more)) e
section_fault goes limits front part more h ss calls before e judged was begins follows fails = pick e fails
  where
    there : BeginsSection (part ++ more)
    there = begins_on part more begins

    here : IsJudgedTo (front ++ (part ++ more)) h ss calls (part ++ more)
    here = judged_on front (part ++ more) h ss calls judged (inr there)

    pick : (e : Fault) → FailsIn (tally_before before) (before.lines + 1) part e → Decides (front ++ (part ++ more)) e
    pick (fault.Syntax line) fails = inr (h, ss, calls, part ++ more, here, there, subst (λ (k : Counts). FailsAt Next (tally_before k) (part ++ more) (k.lines + 1) line SyntaxAt) was (goes Next (tally_before before) part more (before.lines + 1) line follows fails))
    pick (fault.Limit w line) fails = inr (h, ss, calls, part ++ more, here, there, subst (λ (k : Counts). FailsAt Next (tally_before k) (part ++ more) (k.lines + 1) line (LimitAt w)) was (limits w Next (tally_before before) part more (before.lines + 1) line follows fails))
    pick (fault.CaptureBad line place) fails = absurd fails
    pick (fault.NoPacket line) fails = absurd fails
    pick fault.Usage fails = absurd fails
    pick fault.ReadFault fails = absurd fails
    pick fault.WriteFault fails = absurd fails
    pick fault.Memory fails = absurd fails

pub calls_fault : (front more : List ℕ) (h : Header) (ss : List Section) (calls : List SectionCalls) (before : Counts) (s : Section) (f : ResolveFault) (e : Fault) → e ≡ resolve_fault f
    → IsJudged front h ss calls → before ≡ script_counts h ss → IsNextSection before s → BeginsSection (section_text s) → Follows (section_text s) more
    → ((line place : ℕ) → f ≡ resolving.CaptureBad line place → CaptureIsBad s line place) → ((line : ℕ) → f ≡ resolving.NoPacket line → NoPacketAt s line)
    → IsOfText e → Decides (front ++ (section_text s ++ more)) e
calls_fault front more h ss calls before s f e is judged was section begins follows bad missing of =
    subst (λ (e : Fault). Decides (front ++ (section_text s ++ more)) e) (sym is) (pick f bad missing (subst IsOfText is of))
  where
    here : IsJudgedTo (front ++ (section_text s ++ more)) h ss calls (section_text s ++ more)
    here = judged_on front (section_text s ++ more) h ss calls judged (inr (begins_on (section_text s) more begins))

    fits : IsNextSection (script_counts h ss) s
    fits = subst (λ (k : Counts). IsNextSection k s) was section

    pick : (f : ResolveFault) → ((line place : ℕ) → f ≡ resolving.CaptureBad line place → CaptureIsBad s line place) → ((line : ℕ) → f ≡ resolving.NoPacket line → NoPacketAt s line)
        → IsOfText (resolve_fault f) → Decides (front ++ (section_text s ++ more)) (resolve_fault f)
    pick (resolving.CaptureBad line place) bad missing of = (h, ss, calls, s, more, here, fits, next_from (section_text s) more follows, bad line place refl)
    pick (resolving.NoPacket line) bad missing of = (h, ss, calls, s, more, here, fits, next_from (section_text s) more follows, missing line refl)
    pick resolving.Memory bad missing of = absurd of
