-- A script that is judged and run on an engine, section by section.
use Rattle.std.proofs.Common.{◌≡◌, ℕ, ◌+◌, ◌≤◌, Bool, true, false, if◌then◌else◌, ◌&&◌, List, [], ◌∷◌, ◌++◌, length, map, refl, sym, ap, subst, ◌∙◌, arith, Option, Some, None}
use Rattle.std.specs.List.{AllByRecursion}
use Rattle.acct_base.specs.declared.register.Write.{Write}
use Rattle.acct_base.specs.declared.sizes.Sizes.{Sizes}
use Rattle.acct_base.specs.declared.sizes.RegSizes.{RegSizes}
use Rattle.acct_base.specs.Receipts.{Call}
use Rattle.acct_base.specs.Receipts.Call.{Hook, Iface, Allow, Deny}
use Rattle.desk_core.specs.declared.command.Command.{Command}
use Rattle.desk_core.specs.Commands.{reply, after_command, collects, is_done}
use Rattle.script_text.specs.declared.header.Header.{Header}
use Rattle.script_text.specs.declared.section.Section.{Section}
use Rattle.script_text.specs.declared.limits.Counts.{Counts}
use Rattle.script_text.specs.Parts.{header_text, section_text}
use Rattle.script_text.specs.Limits.{counts_after, header_counts}
use Rattle.script_text.specs.Script.{IsFirstHeader, IsNextSection}
use Rattle.script_text.specs.Laws.{ScriptGrows, SyntaxGoesOn, LimitGoesOn}
use Rattle.captures.specs.Calls.{SectionCalls, IsSectionInRange}
use Rattle.captures.specs.Honest.{collections, line_item}
use Rattle.captures.specs.Sections.{AreCalls, CaptureIsBad, NoPacketAt}
use Rattle.captures.specs.declared.section.ResolveFault.{ResolveFault}
use Rattle.captures.specs.declared.section.ResolveFault.TheVariants as resolving
use Rattle.shelf.specs.declared.report.SectionOut.{SectionOut}
use Rattle.shelf.specs.declared.report.Report.{Report}
use Rattle.shelf.specs.Shown.{Shown, shown}
use Rattle.captures.specs.Honest.{IsHonest}
use Rattle.acct_plain.specs.Walks.{calls_made as plainly_made, calls_of_sections}
use Rattle.dump_text.specs.Room.{AppsCoverDeletions}
use Rattle.replay_main.specs.Bounds.{SumsAreSmall, HonestSumsAreSmall}
use Rattle.hook_engine.specs.Ends.{Rest, EngineClosed, EndedWhereTold, Told}
use Rattle.hook_engine.specs.Passes.{spent}
use Rattle.hook_engine.specs.Tables.{EngineState}
use Rattle.lanes.specs.declared.crew.Crew.{Crew}
use Rattle.lanes.specs.Crews.{progress_of}
use Rattle.lanes.specs.Desks.{collecting}
use Rattle.lanes.specs.Lanes.{calls_made, spent_in, spent_by}
use Rattle.lanes.specs.Progress.{Progress}
use Rattle.lanes.specs.Sections.{SectionDone, CrewRan}
use Rattle.replay_main.specs.declared.fault.Fault.{Fault}
use Rattle.replay_main.specs.declared.fault.Fault.TheVariants as fault
use Rattle.replay_main.specs.declared.parts.Parts.{Parts}
use Rattle.replay_main.specs.declared.incoming.Incoming.{Incoming}
use Rattle.replay_main.specs.Faults.{resolve_fault}
use Rattle.replay_main.specs.Incoming.{TakesPart, HasCome, SectionFails}
use Rattle.replay_main.specs.OnEngine.{IsOpened, MayRun, SectionAdds, IsRunTo, RanSoFar, IsCallsFault}
use Rattle.replay_main.specs.Reached.{IsWithin, IsRead}
use Rattle.replay_main.specs.Judged.{asked_of}
use Rattle.replay_main.specs.Replays.{nothing_done, report_of, HasReplayed, ReplayIsHonest, ReplayIsTold, ReplayIsSerial, ReplayCovers}
use Rattle.replay_main.specs.Run.{WasSo, DecidesOn, IsOfText, IsReplayed, WasTold}
use Rattle.replay_main.proofs.Arriving.{come_more, come_over, section_decides, calls_decide}
use Rattle.replay_main.proofs.Counting.{hooks_counted, ending_counted}
use Rattle.replay_main.proofs.EngineSizes.{header_calls}
use Rattle.replay_main.proofs.Judging.{header_judged, section_judged, section_counts, judged_short}

-- ---- enough of everything

same_made : (lanes : List (List (ℕ × Call))) → calls_made lanes ≡ plainly_made lanes
same_made [] = refl
same_made (l ∷ ls) = let rest = same_made ls in omega (arith, rest)

-- a call spends one at most
spends_one : (call : Call) → spent call ≤ 1
spends_one (Hook c) = omega arith
spends_one (Iface c) = omega arith
spends_one (Allow sock_uid cookie received) = omega arith
spends_one (Deny sock_uid) = omega arith

lane_spends : (lane : List (ℕ × Call)) → spent_in lane ≤ length lane
lane_spends [] = omega arith
lane_spends (c ∷ cs) = let here = spends_one c.1 in let rest = lane_spends cs in omega (arith, here, rest)

lanes_spend : (lanes : List (List (ℕ × Call))) → spent_by lanes ≤ calls_made lanes
lanes_spend [] = omega arith
lanes_spend (l ∷ ls) = let here = lane_spends l in let rest = lanes_spend ls in omega (arith, here, rest)

-- no more phases end than commands may end
done_within : (privileged : List ℕ) (sizes : RegSizes) (journal : List Write) (desk : List (ℕ × Command)) → length (collections privileged sizes journal (map line_item desk)) ≤ length (collecting desk)
done_within privileged sizes journal [] = omega arith
done_within privileged sizes journal (c ∷ cs) =
    let others = collections privileged sizes (after_command privileged sizes journal c.1) (map line_item cs) in
    let rest = done_within privileged sizes (after_command privileged sizes journal c.1) cs in
    let step : (a b : Bool) → length (if a && b then c.1 ∷ others else others) ≤ length (if a then c ∷ collecting cs else collecting cs) =
    λ a b. elim a as (λ a. length (if a && b then c.1 ∷ others else others) ≤ length (if a then c ∷ collecting cs else collecting cs)) [
      | true ↦ elim b as (λ b. length (if b then c.1 ∷ others else others) ≤ length (c ∷ collecting cs)) [ true ↦ omega (arith, rest) | false ↦ omega (arith, rest) ]
      | false ↦ rest
    ] in
    step (collects c.1) (is_done (reply journal privileged sizes c.1))

-- ---- sections so far

all_push : {X : Type 0} (P : X → Type 0) (xs : List X) (x : X) → AllByRecursion P xs → P x → AllByRecursion P (xs ++ x ∷ [])
all_push P [] x h p = (p, tt)
all_push P (y ∷ ys) x h p = (h.0, all_push P ys x h.1 p)

calls_push : (ss : List SectionCalls) (s : SectionCalls) → calls_of_sections (ss ++ s ∷ []) ≡ calls_of_sections ss + plainly_made s.lanes
calls_push [] s = omega arith
calls_push (x ∷ xs) s = omega (arith, calls_push xs s)

module _ (budget : ℕ) (privileged : List ℕ) (sizes : Sizes) where
  crew_more : (start : Progress) (cs : List SectionCalls) (mid : Progress) (os : List SectionOut) (c : SectionCalls) (o : SectionOut) (end : Progress) → CrewRan budget privileged sizes start cs mid os →
      SectionDone budget privileged sizes mid c end o → CrewRan budget privileged sizes start (cs ++ c ∷ []) end (os ++ o ∷ [])
  crew_more start [] mid [] c o end h d = (end, subst (λ (x : Progress). SectionDone budget privileged sizes x c end o) (sym h) d, refl)
  crew_more start [] mid (p ∷ os) c o end h d = absurd h
  crew_more start (b ∷ cs) mid [] c o end h d = absurd h
  crew_more start (b ∷ cs) mid (p ∷ os) c o end h d = (h.0, h.1, crew_more h.0 cs mid os c o end h.2 d)

ran_first : (h : Header) (counts : Counts) (engine : EngineState) (crew : Crew) (outs : List SectionOut) → IsFirstHeader h → counts ≡ header_counts h → IsWithin counts → IsOpened h engine crew → outs ≡ [] →
    IsRunTo (header_text h) h counts engine crew outs
ran_first h counts engine crew outs is counted within opened none =
    let left : crew.pass.has.left ≡ h.sizes.calls = ap (λ (p : Progress). p.pass.left) opened.first in
    let all = header_calls h is in
    let phase : crew.collector.seat.phase ≡ 0 = ap (λ (p : Progress). p.gathered.phase) opened.first in
    record {
      sections = [];
      calls = [];
      judged = header_judged h is;
      counts_are = counted;
      within = within;
      ranges = tt;
      sizes = opened.sizes;
      privileged = opened.privileged;
      ran = subst (CrewRan h.sizes.calls h.privileged h.sizes (nothing_done h.sizes.calls) [] (progress_of crew)) (sym none) (sym opened.first);
      ready = opened.ready;
      few = omega arith;
      few_calls = omega (arith, left, all);
      few_phases = omega (arith, phase);
    }

ran_more : ScriptGrows → (front : List ℕ) (h : Header) (before after : Counts) (engine : EngineState) (mid now : Crew) (outs new : List SectionOut) (s : Section) → IsRunTo front h before engine mid outs
    → IsNextSection before s → after ≡ counts_after before s → IsWithin after → SectionAdds engine mid s outs now new → IsRunTo (front ++ section_text s) h after engine now new
ran_more grows front h before after engine mid now outs new s i is counted within adds =
    let calls = adds.calls in
    let done : SectionDone h.sizes.calls h.privileged h.sizes (progress_of mid) calls (progress_of now) adds.out =
    subst (λ (z : List ℕ × Sizes). SectionDone z.1.calls z.0 z.1 (progress_of mid) calls (progress_of now) adds.out) (λ j. (i.privileged j, i.sizes j)) adds.done in
    let made : after.hooks ≡ before.hooks + plainly_made calls.lanes = ap (λ (c : Counts). c.hooks) counted ∙ hooks_counted before s calls adds.are in
    let ended : after.collections ≡ before.collections + length (collecting calls.desk) = ap (λ (c : Counts). c.collections) counted ∙ ending_counted before s calls adds.are in
    let same = same_made calls.lanes in
    let spends = lanes_spend calls.lanes in
    let left = done.left in
    let grown = done.ran.grown in
    let few = done_within h.privileged h.sizes.regs mid.desk.book.journal calls.desk in
    let from = i.ready.whole.level.phase in
    let to = adds.ready.whole.level.phase in
    let all_before = i.few in
    let calls_before = i.few_calls in
    let phases_before = i.few_phases in
    record {
      sections = i.sections ++ s ∷ [];
      calls = i.calls ++ calls ∷ [];
      judged = section_judged grows front h i.sections i.calls s calls i.judged (subst (λ (k : Counts). IsNextSection k s) i.counts_are is) adds.are;
      counts_are = section_counts grows h i.sections s front i.calls before after i.judged i.counts_are is counted;
      within = within;
      ranges = all_push IsSectionInRange i.calls calls i.ranges adds.range;
      sizes = i.sizes;
      privileged = adds.privileged ∙ i.privileged;
      ran = subst (CrewRan h.sizes.calls h.privileged h.sizes (nothing_done h.sizes.calls) (i.calls ++ calls ∷ []) (progress_of now)) (sym adds.pushed)
          (crew_more h.sizes.calls h.privileged h.sizes (nothing_done h.sizes.calls) i.calls (progress_of mid) outs calls adds.out (progress_of now) i.ran done);
      ready = adds.ready;
      few = omega (arith, all_before, made, calls_push i.calls calls);
      few_calls = omega (arith, calls_before, made, same, spends, left);
      few_phases = omega (arith, phases_before, ended, grown, few, from, to);
    }

pub may_run : (front : List ℕ) (h : Header) (before after : Counts) (engine : EngineState) (crew : Crew) (outs : List SectionOut) (s : Section) → IsRunTo front h before engine crew outs → after ≡ counts_after before s →
    IsWithin after → (calls : SectionCalls) → AreCalls s calls → MayRun crew calls
may_run front h before after engine crew outs s i counted within calls are =
    let made : after.hooks ≡ before.hooks + plainly_made calls.lanes = ap (λ (c : Counts). c.hooks) counted ∙ hooks_counted before s calls are in
    let ended : after.collections ≡ before.collections + length (collecting calls.desk) = ap (λ (c : Counts). c.collections) counted ∙ ending_counted before s calls are in
    let same = same_made calls.lanes in
    record { enough = omega (arith, i.few_calls, within.limits.hooks, made, same); early = omega (arith, i.few_phases, within.limits.collections, ended) }

-- ---- what has come in

pub ran_begins : (was now : Option (List ℕ)) (i : Incoming) (h : Header) (engine : EngineState) (crew : Crew) (outs : List SectionOut) → HasCome was now i (header_text h) → IsFirstHeader h → i.counts ≡ header_counts h →
    IsWithin i.counts → IsOpened h engine crew → outs ≡ [] → RanSoFar was now i h engine crew outs
ran_begins was now i h engine crew outs come is counted within opened none = (header_text h, come, ran_first h i.counts engine crew outs is counted within opened none)

pub ran_goes_on : ScriptGrows → (was now later : Option (List ℕ)) (old new : Incoming) (h : Header) (engine : EngineState) (mid crew : Crew) (outs more : List SectionOut) (s : Section) → RanSoFar was now old h engine mid outs →
    IsNextSection old.counts s → new.counts ≡ counts_after old.counts s → IsWithin new.counts → TakesPart now later old.parts new.parts (section_text s) new.is_over → SectionAdds engine mid s outs crew more →
    RanSoFar was later new h engine crew more
ran_goes_on grows was now later old new h engine mid crew outs more s (front, come, at) is counted within takes adds = (
  front ++ section_text s,
  come_more was now later old new front (section_text s) come takes,
  ran_more grows front h old.counts new.counts engine mid crew outs more s at is counted within adds,
)

pub ran_fails : SyntaxGoesOn → LimitGoesOn → (was now later : Option (List ℕ)) (old : Incoming) (new : Parts) (h : Header) (engine : EngineState) (crew : Crew) (outs : List SectionOut) (e : Fault) → RanSoFar was now old h engine crew outs →
    SectionFails now later old new e → WasSo (DecidesOn e) was
ran_fails goes limits was now later old new h engine crew outs e (front, come, at) fails = section_decides goes limits was now later old new front h at.sections at.calls e come at.judged at.counts_are fails

pub ran_lacks_calls : (was now later : Option (List ℕ)) (old new : Incoming) (h : Header) (engine : EngineState) (crew : Crew) (outs : List SectionOut) (s : Section) (e : Fault) → RanSoFar was now old h engine crew outs → old.is_over ≡ false →
    TakesPart now later old.parts new.parts (section_text s) new.is_over → IsNextSection old.counts s → IsCallsFault e → ((line place : ℕ) → e ≡ fault.CaptureBad line place → CaptureIsBad s line place) →
    ((line : ℕ) → e ≡ fault.NoPacket line → NoPacketAt s line) → IsOfText e → WasSo (DecidesOn e) was
ran_lacks_calls was now later old new h engine crew outs s (fault.CaptureBad line place) (front, come, at) goes takes next is bad missing of =
    calls_decide was now later old new front h at.sections at.calls s (resolving.CaptureBad line place) (fault.CaptureBad line place) come at.judged at.counts_are goes takes next refl (λ l p e. bad l p (ap resolve_fault e))
    (λ l e. missing l (ap resolve_fault e)) of
ran_lacks_calls was now later old new h engine crew outs s (fault.NoPacket line) (front, come, at) goes takes next is bad missing of =
    calls_decide was now later old new front h at.sections at.calls s (resolving.NoPacket line) (fault.NoPacket line) come at.judged at.counts_are goes takes next refl (λ l p e. bad l p (ap resolve_fault e))
    (λ l e. missing l (ap resolve_fault e)) of
ran_lacks_calls was now later old new h engine crew outs s fault.Memory so goes takes next is bad missing of = absurd of
ran_lacks_calls was now later old new h engine crew outs s fault.Usage so goes takes next is bad missing of = absurd is
ran_lacks_calls was now later old new h engine crew outs s fault.ReadFault so goes takes next is bad missing of = absurd is
ran_lacks_calls was now later old new h engine crew outs s fault.WriteFault so goes takes next is bad missing of = absurd is
ran_lacks_calls was now later old new h engine crew outs s (fault.Syntax line) so goes takes next is bad missing of = absurd is
ran_lacks_calls was now later old new h engine crew outs s (fault.Limit which line) so goes takes next is bad missing of = absurd is

-- a packet that is lacking is told by its line
pub no_packet_is : (f : ResolveFault) (line : ℕ) → fault.NoPacket line ≡ resolve_fault f → f ≡ resolving.NoPacket line
no_packet_is (resolving.NoPacket l) line e = cc
no_packet_is (resolving.CaptureBad l place) line e = absurd (cc)
no_packet_is resolving.Memory line e = absurd (cc)

pub ran_over : (was now : Option (List ℕ)) (i : Incoming) (h : Header) (engine : EngineState) (crew : Crew) (outs : List SectionOut) → RanSoFar was now i h engine crew outs → i.is_over ≡ true →
    (text : List ℕ) × IsRead was now text × IsRunTo text h i.counts engine crew outs
ran_over was now i h engine crew outs (front, come, at) over = (front, come_over was now i front come over (judged_short front h at.sections at.calls i.counts at.judged at.counts_are at.within), at)

-- ---- the whole

module _ (text : List ℕ) (h : Header) (counts : Counts) (engine : EngineState) (crew : Crew) (outs : List SectionOut) (r : Report) (rest : Rest) (i : IsRunTo text h counts engine crew outs)
    (closed : EngineClosed engine.sizes crew.pass.has crew.collector.seat.snapshots crew.desk.book.journal rest) (shows : shown r ≡ report_of h.names outs (progress_of crew) rest) where
  has_replayed : HasReplayed h.sizes.calls (asked_of h i.calls) (progress_of crew) outs rest
  has_replayed = record {
    ran = i.ran;
    closed = subst (λ (s : Sizes). EngineClosed s crew.pass.has crew.collector.seat.snapshots crew.desk.book.journal rest) i.sizes closed;
  }

  pub replayed_whole : ReplayIsHonest → ReplayIsTold → ReplayIsSerial → (before after : Option Told) → EndedWhereTold crew.pass.has crew.collector.seat.snapshots before after → IsReplayed text r before after
  unfolding has_replayed
  replayed_whole honest telling serial before after ended =
      let asked = asked_of h i.calls in
      record {
        header = h;
        sections = i.sections;
        calls = i.calls;
        judged = i.judged;
        honest = subst (IsHonest asked) (sym shows) (honest h.sizes.calls asked (progress_of crew) outs rest has_replayed);
        serial = λ apart. shows ∙ serial h.sizes.calls asked (progress_of crew) outs rest has_replayed apart;
        told = subst (λ (x : Shown). WasTold asked x before after) (sym shows) (was_told before after ended);
      }
    where
      was_told : (before after : Option Told) → EndedWhereTold crew.pass.has crew.collector.seat.snapshots before after → WasTold (asked_of h i.calls) (report_of h.names outs (progress_of crew) rest) before after
      was_told None after e = tt
      was_told (Some before) None e = absurd e
      was_told (Some before) (Some after) e = telling h.sizes.calls (asked_of h i.calls) (progress_of crew) outs rest before after has_replayed e

  pub replayed_small : HonestSumsAreSmall → ReplayIsHonest → SumsAreSmall (shown r)
  unfolding has_replayed
  replayed_small law honest =
      let asked = asked_of h i.calls in
      let hooks = i.within.limits.hooks in
      let few = i.few in
      law asked (shown r) i.ranges (omega (arith, hooks, few)) (subst (IsHonest asked) (sym shows) (honest h.sizes.calls asked (progress_of crew) outs rest has_replayed))

  pub replayed_covers : ReplayCovers → AppsCoverDeletions (shown r)
  unfolding has_replayed
  replayed_covers law = subst AppsCoverDeletions (sym shows) (law h.sizes.calls (asked_of h i.calls) (progress_of crew) outs rest has_replayed)
