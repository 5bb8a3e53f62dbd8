-- What is known of a script while it comes in.
use Rattle.std.proofs.Common.{◌≡◌, ℕ, ◌+◌, ◌-◌, ◌<◌, ◌≤◌, Bool, true, false, List, [], ◌∷◌, ◌++◌, length, subst, arith, Option}
use Rattle.script_text.specs.declared.header.Header.{Header}
use Rattle.script_text.specs.declared.section.Section.{Section}
use Rattle.script_text.specs.declared.limits.Counts.{Counts}
use Rattle.script_text.specs.Parts.{header_text, section_text}
use Rattle.script_text.specs.Limits.{header_counts, counts_after}
use Rattle.script_text.specs.Script.{IsFirstHeader, IsNextSection}
use Rattle.script_text.specs.Laws.{ScriptGrows, SyntaxGoesOn, LimitGoesOn}
use Rattle.captures.specs.declared.section.ResolveFault.{ResolveFault}
use Rattle.captures.specs.declared.section.ResolveFault.TheVariants as resolving
use Rattle.captures.specs.Calls.{SectionCalls, IsSectionInRange}
use Rattle.captures.specs.Runs.{nothing_yet}
use Rattle.shelf.specs.declared.report.SectionOut.{SectionOut}
use Rattle.acct_plain.specs.Kept.{Tables, Keeps}
use Rattle.acct_plain.specs.Walks.{IsSectionWalked, collecting}
use Rattle.captures.specs.Sections.{AreCalls, CaptureIsBad, NoPacketAt}
use Rattle.replay_main.specs.declared.fault.Fault.{Fault}
use Rattle.replay_main.specs.declared.parts.Parts.{Parts}
use Rattle.replay_main.specs.declared.incoming.Incoming.{Incoming}
use Rattle.replay_main.specs.Faults.{resolve_fault}
use Rattle.replay_main.specs.Incoming.{ComesNext, TakesPart, HasCome, IsComing, SectionFails, ReplayedSoFar}
use Rattle.replay_main.specs.Reached.{IsWithin, IsRead, IsCounted, IsCheckedAs, IsReplayedTo}
use Rattle.replay_main.specs.Run.{WasSo, DecidesOn, IsOfText}
use Rattle.replay_main.proofs.Cutting.{section_bytes}
use Rattle.replay_main.proofs.Judging.{counted_first, counted_more, checked_whole, counted_short}
use Rattle.replay_main.proofs.Replaying.{replayed_first, replayed_more, bytes_at_end}
use Rattle.replay_main.proofs.Arriving.{come_more, come_over, section_decides, calls_decide}

-- A section may be read where so much has come.
pub may_come : (was now : Option (List ℕ)) (i : Incoming) (front : List ℕ) → HasCome was now i front → IsComing i
may_come was now i front h = record {
  reader = h.reader;
  begins = λ goes. subst (λ (b : Bool). ComesNext b now i.parts) goes h.next;
}

-- Each section has bytes, so a script of sections ends.
pub section_shorter : (before now : Counts) (s : Section) → now ≡ counts_after before s → IsWithin now → 268435456 - now.bytes < 268435456 - before.bytes
section_shorter before now s is within =
    let grew : now.bytes ≡ before.bytes + length (section_text s) = section_bytes before s now is in
    let some : 8 ≤ length (section_text s) = long s in
    omega (arith, grew, some, within.limits.bytes)
  where
    long : (s : Section) → 8 ≤ length (section_text s)
    long s = omega arith

-- ---- a script that is judged

abbrev pub CountedSoFar : Option (List ℕ) → Option (List ℕ) → Incoming → Type 0
CountedSoFar was now i = (front : List ℕ) × HasCome was now i front × IsCounted front i.counts

pub counted_begins : (was now : Option (List ℕ)) (i : Incoming) (h : Header) → HasCome was now i (header_text h) → IsFirstHeader h → i.counts ≡ header_counts h → IsWithin i.counts → CountedSoFar was now i
counted_begins was now i h come is counted within = (header_text h, come, counted_first h i.counts is counted within)

pub counted_goes_on : ScriptGrows → (was now then : Option (List ℕ)) (old new : Incoming) (s : Section) (c : SectionCalls) → CountedSoFar was now old → IsNextSection old.counts s → new.counts ≡ counts_after old.counts s
    → IsWithin new.counts → TakesPart now then old.parts new.parts (section_text s) new.is_over → AreCalls s c → CountedSoFar was then new
counted_goes_on grows was now then old new s c (front, come, at) is counted within takes are =
    (front ++ section_text s, come_more was now then old new front (section_text s) come takes, counted_more grows front old.counts new.counts s c at is counted within are)

pub counted_fails : SyntaxGoesOn → LimitGoesOn → (was now then : Option (List ℕ)) (old : Incoming) (new : Parts) (e : Fault) → CountedSoFar was now old → SectionFails now then old new e → WasSo (DecidesOn e) was
counted_fails goes limits was now then old new e (front, come, at) fails = section_decides goes limits was now then old new front at.header at.sections at.calls e come at.judged at.counts_are fails

pub counted_lacks_calls : (was now then : Option (List ℕ)) (old new : Incoming) (s : Section) (f : ResolveFault) (e : Fault) → CountedSoFar was now old → old.is_over ≡ false
    → TakesPart now then old.parts new.parts (section_text s) new.is_over → IsNextSection old.counts s → e ≡ resolve_fault f
    → ((line place : ℕ) → f ≡ resolving.CaptureBad line place → CaptureIsBad s line place) → ((line : ℕ) → f ≡ resolving.NoPacket line → NoPacketAt s line) → IsOfText e → WasSo (DecidesOn e) was
counted_lacks_calls was now then old new s f e (front, come, at) goes takes next is bad missing of =
    calls_decide was now then old new front at.header at.sections at.calls s f e come at.judged at.counts_are goes takes next is bad missing of

pub counted_over : (was now : Option (List ℕ)) (i : Incoming) → CountedSoFar was now i → i.is_over ≡ true → (text : List ℕ) × IsRead was now text × IsCheckedAs text i.counts
counted_over was now i (front, come, at) over = (front, come_over was now i front come over (counted_short front i.counts at), checked_whole front i.counts at)

-- ---- a script that is replayed

pub replayed_begins : (was now : Option (List ℕ)) (i : Incoming) (h : Header) (first : Tables) (outs : List SectionOut) → HasCome was now i (header_text h) → IsFirstHeader h → i.counts ≡ header_counts h → IsWithin i.counts
    → Keeps first nothing_yet 0 → outs ≡ [] → ReplayedSoFar was now i h first first outs
replayed_begins was now i h first outs come is counted within keeps none = (header_text h, come, replayed_first h i.counts first outs is counted within keeps none)

pub replayed_fails : SyntaxGoesOn → LimitGoesOn → (was now then : Option (List ℕ)) (old : Incoming) (new : Parts) (h : Header) (first tables : Tables) (outs : List SectionOut) (e : Fault)
    → ReplayedSoFar was now old h first tables outs → SectionFails now then old new e → WasSo (DecidesOn e) was
replayed_fails goes limits was now then old new h first tables outs e (front, come, at) fails = section_decides goes limits was now then old new front h at.sections at.calls e come at.judged at.counts_are fails

pub replayed_lacks_calls : (was now then : Option (List ℕ)) (old new : Incoming) (h : Header) (first tables : Tables) (outs : List SectionOut) (s : Section) (f : ResolveFault) (e : Fault)
    → ReplayedSoFar was now old h first tables outs → old.is_over ≡ false
    → TakesPart now then old.parts new.parts (section_text s) new.is_over → IsNextSection old.counts s → e ≡ resolve_fault f
    → ((line place : ℕ) → f ≡ resolving.CaptureBad line place → CaptureIsBad s line place) → ((line : ℕ) → f ≡ resolving.NoPacket line → NoPacketAt s line) → IsOfText e → WasSo (DecidesOn e) was
replayed_lacks_calls was now then old new h first tables outs s f e (front, come, at) goes takes next is bad missing of =
    calls_decide was now then old new front h at.sections at.calls s f e come at.judged at.counts_are goes takes next is bad missing of

pub replayed_goes_on : ScriptGrows → (was now then : Option (List ℕ)) (old new : Incoming) (h : Header) (first mid tables : Tables) (outs more : List SectionOut) (s : Section) (c : SectionCalls) (out : SectionOut)
    → ReplayedSoFar was now old h first mid outs → IsNextSection old.counts s → new.counts ≡ counts_after old.counts s → IsWithin new.counts → TakesPart now then old.parts new.parts (section_text s) new.is_over
    → AreCalls s c → IsSectionInRange c → IsSectionWalked mid tables c out → tables.sizes ≡ mid.sizes → tables.book.privileged ≡ mid.book.privileged
    → length tables.phases ≤ length mid.phases + length (collecting c.desk) → more ≡ outs ++ out ∷ [] → ReplayedSoFar was then new h first tables more
replayed_goes_on grows was now then old new h first mid tables outs more s c out (front, come, at) is counted within takes are range walked sizes privileged grown pushed = (
  front ++ section_text s,
  come_more was now then old new front (section_text s) come takes,
  replayed_more grows front h old.counts new.counts first mid tables outs more s c out at is counted within are range walked sizes privileged grown pushed,
)

pub replayed_over : (was now : Option (List ℕ)) (i : Incoming) (h : Header) (first tables : Tables) (outs : List SectionOut) → ReplayedSoFar was now i h first tables outs → i.is_over ≡ true
    → (text : List ℕ) × IsRead was now text × IsReplayedTo text h i.counts first tables outs
replayed_over was now i h first tables outs (front, come, at) over = (front, come_over was now i front come over (bytes_at_end front h i.counts first tables outs at), at)
