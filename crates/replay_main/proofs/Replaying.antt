-- A text that is judged and replayed section by section.
use Rattle.std.proofs.Common.{◌≡◌, ℕ, ◌+◌, ◌*◌, ◌≤◌, List, [], ◌∷◌, ◌++◌, length, refl, sym, ap, subst, ◌∙◌, arith}
use Rattle.std.specs.List.{AllByRecursion}
use Rattle.script_text.specs.declared.header.Header.{Header}
use Rattle.script_text.specs.declared.section.Section.{Section}
use Rattle.script_text.specs.declared.limits.Counts.{Counts}
use Rattle.script_text.specs.Parts.{section_text}
use Rattle.script_text.specs.Limits.{counts_after, header_counts}
use Rattle.script_text.specs.Parts.{header_text}
use Rattle.script_text.specs.Script.{IsFirstHeader, IsNextSection}
use Rattle.script_text.specs.Laws.{ScriptGrows}
use Rattle.captures.specs.Calls.{SectionCalls, IsSectionInRange}
use Rattle.captures.specs.Sections.{AreCalls}
use Rattle.captures.specs.Runs.{Past, nothing_yet}
use Rattle.shelf.specs.declared.report.SectionOut.{SectionOut}
use Rattle.acct_plain.specs.Kept.{Tables, Keeps, HasRoomFor}
use Rattle.acct_plain.specs.Serial.{walk_sections}
use Rattle.acct_plain.specs.Walks.{AreSectionsWalked, IsSectionWalked, calls_of_sections, calls_made, collecting}
use Rattle.acct_plain.proofs.Walking.{section_more_of}
use Rattle.shelf.specs.declared.report.Report.{Report}
use Rattle.shelf.specs.Shown.{shown}
use Rattle.captures.specs.Honest.{IsHonest}
use Rattle.acct_plain.specs.Laws.{SerialIsHonest}
use Rattle.acct_plain.specs.Serial.{serial, told}
use Rattle.dump_text.specs.Room.{AppsCoverDeletions}
use Rattle.captures.specs.Calls.{Asked, IsAskedInRange}
use Rattle.replay_main.specs.Judged.{asked_of}
use Rattle.replay_main.specs.Bounds.{SumsAreSmall, HonestSumsAreSmall}
use Rattle.replay_main.specs.Reached.{IsWithin, IsReplayedTo, IsPlain}
use Rattle.replay_main.proofs.Judging.{header_judged, section_judged, section_counts, judged_short}
use Rattle.replay_main.proofs.Counting.{hooks_counted, ending_counted}

all_push : {X : Type 0} (P : X → Type 0) (xs : List X) (x : X) → AllByRecursion P xs → P x → AllByRecursion P (xs ++ x ∷ [])
all_push P [] x h p = (p, tt)
all_push P (y ∷ ys) x h p = (h.0, all_push P ys x h.1 p)

calls_push : (ss : List SectionCalls) (s : SectionCalls) → calls_of_sections (ss ++ s ∷ []) ≡ calls_of_sections ss + calls_made s.lanes
calls_push [] s = omega arith
calls_push (x ∷ xs) s = omega (arith, calls_push xs s)

pub replayed_first : (h : Header) (counts : Counts) (p : Tables) (outs : List SectionOut) → IsFirstHeader h → counts ≡ header_counts h → IsWithin counts → Keeps p nothing_yet 0 → outs ≡ []
    → IsReplayedTo (header_text h) h counts p p outs
replayed_first h counts p outs is counted within keeps none = record {
  sections = [];
  calls = [];
  judged = header_judged h is;
  counts_are = counted;
  within = within;
  ranges = tt;
  walked = λ past n k. (none, subst (Keeps p past) (omega arith) k);
  sizes = refl;
  privileged = refl;
  few_calls = omega arith;
  few_phases = subst (λ (n : ℕ). n ≤ counts.collections) (sym (ap length keeps.phases)) (omega arith);
}

-- what is kept after the sections so far
pub kept_so_far : (front : List ℕ) (h : Header) (counts : Counts) (first now : Tables) (outs : List SectionOut) → (i : IsReplayedTo front h counts first now outs) → Keeps first nothing_yet 0
    → (outs ≡ (walk_sections first.book.privileged first.sizes nothing_yet i.calls).1) × Keeps now (walk_sections first.book.privileged first.sizes nothing_yet i.calls).0 (0 + 3 * calls_of_sections i.calls)
kept_so_far front h counts first now outs i keeps = i.walked nothing_yet 0 keeps

pub room_for : (front : List ℕ) (h : Header) (before after : Counts) (first now : Tables) (outs : List SectionOut) (s : Section) (calls : SectionCalls)
    → IsReplayedTo front h before first now outs → Keeps first nothing_yet 0 → after ≡ counts_after before s → IsWithin after → AreCalls s calls → HasRoomFor now (3 * calls_made calls.lanes)
room_for front h before after first now outs s calls i keeps counted within are =
    let kept = kept_so_far front h before first now outs i keeps in
    let hooks : after.hooks ≡ before.hooks + calls_made calls.lanes = ap (λ (c : Counts). c.hooks) counted ∙ hooks_counted before s calls are in
    (_, 0 + 3 * calls_of_sections i.calls, omega (arith, i.few_calls, within.limits.hooks, hooks), kept.1)

pub phases_fit : (front : List ℕ) (h : Header) (before after : Counts) (first now : Tables) (outs : List SectionOut) (s : Section) (calls : SectionCalls)
    → IsReplayedTo front h before first now outs → after ≡ counts_after before s → IsWithin after → AreCalls s calls → length now.phases + length (collecting calls.desk) ≤ 1024
phases_fit front h before after first now outs s calls i counted within are =
    let ended : after.collections ≡ before.collections + length (collecting calls.desk) = ap (λ (c : Counts). c.collections) counted ∙ ending_counted before s calls are in
    omega (arith, i.few_phases, within.limits.collections, ended)

pub replayed_more : ScriptGrows → (front : List ℕ) (h : Header) (before after : Counts) (first mid now : Tables) (outs new : List SectionOut) (s : Section) (calls : SectionCalls) (out : SectionOut)
    → IsReplayedTo front h before first mid outs → IsNextSection before s → after ≡ counts_after before s → IsWithin after
    → AreCalls s calls → IsSectionInRange calls → IsSectionWalked mid now calls out → now.sizes ≡ mid.sizes → now.book.privileged ≡ mid.book.privileged
    → length now.phases ≤ length mid.phases + length (collecting calls.desk) → new ≡ outs ++ out ∷ [] → IsReplayedTo (front ++ section_text s) h after first now new
replayed_more grows front h before after first mid now outs new s calls out i is counted within are range walked sizes privileged grown pushed =
    let hooks : after.hooks ≡ before.hooks + calls_made calls.lanes = ap (λ (c : Counts). c.hooks) counted ∙ hooks_counted before s calls are in
    let ended : after.collections ≡ before.collections + length (collecting calls.desk) = ap (λ (c : Counts). c.collections) counted ∙ ending_counted before s calls are in
    record {
      sections = i.sections ++ s ∷ [];
      calls = i.calls ++ calls ∷ [];
      judged = section_judged grows front h i.sections i.calls s calls i.judged (subst (λ (k : Counts). IsNextSection k s) i.counts_are is) are;
      counts_are = section_counts grows h i.sections s front i.calls before after i.judged i.counts_are is counted;
      within = within;
      ranges = all_push IsSectionInRange i.calls calls i.ranges range;
      walked = subst (AreSectionsWalked first now (i.calls ++ calls ∷ [])) (sym pushed) (section_more_of first mid now i.calls (i.calls ++ calls ∷ []) calls outs out i.sizes i.privileged refl i.walked walked);
      sizes = sizes ∙ i.sizes;
      privileged = privileged ∙ i.privileged;
      few_calls = omega (arith, i.few_calls, hooks, calls_push i.calls calls);
      few_phases = omega (arith, i.few_phases, grown, ended);
    }

-- ---- the whole

pub room_at_end : (text : List ℕ) (h : Header) (counts : Counts) (first now : Tables) (outs : List SectionOut) → IsReplayedTo text h counts first now outs → Keeps first nothing_yet 0 → HasRoomFor now 0
room_at_end text h counts first now outs i keeps =
    (_, 0 + 3 * calls_of_sections i.calls, omega (arith, i.few_calls, i.within.limits.hooks), (i.walked nothing_yet 0 keeps).1)

pub bytes_at_end : (text : List ℕ) (h : Header) (counts : Counts) (first now : Tables) (outs : List SectionOut) → IsReplayedTo text h counts first now outs → length text ≤ 268435456
bytes_at_end text h counts first now outs i = judged_short text h i.sections i.calls counts i.judged i.counts_are i.within

module _ (text : List ℕ) (h : Header) (counts : Counts) (first now : Tables) (outs : List SectionOut) (r : Report) (i : IsReplayedTo text h counts first now outs) (keeps : Keeps first nothing_yet 0)
    (sizes : first.sizes ≡ h.sizes) (privileged : first.book.privileged ≡ h.privileged) (finished : (past : Past) (n : ℕ) → Keeps now past n → shown r ≡ told h.names outs past) where
  asked : Asked
  asked = asked_of h i.calls

  same : shown r ≡ serial asked
  unfolding asked
  same =
      let kept = i.walked nothing_yet 0 keeps in
      finished _ _ kept.1
      ∙ ap (λ (os : List SectionOut). told h.names os (walk_sections first.book.privileged first.sizes nothing_yet i.calls).0) kept.0
      ∙ (λ j. told h.names (walk_sections (privileged j) (sizes j) nothing_yet i.calls).1 (walk_sections (privileged j) (sizes j) nothing_yet i.calls).0)

  pub plain_whole : SerialIsHonest → IsPlain text r
  unfolding asked
  plain_whole law = record {
    header = h;
    sections = i.sections;
    calls = i.calls;
    judged = i.judged;
    serial_is = same;
    honest = subst (IsHonest asked) (sym same) (law asked i.ranges);
  }

  pub plain_small : HonestSumsAreSmall → SerialIsHonest → SumsAreSmall (shown r)
  unfolding asked plain_whole
  plain_small law honest = law asked (shown r) i.ranges (omega (arith, i.few_calls, i.within.limits.hooks)) (plain_whole honest).honest

  pub plain_covers : ((asked : Asked) → IsAskedInRange asked → AppsCoverDeletions (serial asked)) → AppsCoverDeletions (shown r)
  unfolding asked
  plain_covers law = subst AppsCoverDeletions (sym same) (law asked i.ranges)
