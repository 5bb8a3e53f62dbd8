-- A text has one judgement.
use Rattle.std.proofs.Common.{◌≡◌, ◌⊎◌, ℕ, ◌+◌, List, [], ◌∷◌, ◌++◌, refl, sym, ap, subst, ◌∙◌, inl, inr}
use Rattle.std.specs.Prelude.{codes}
use Rattle.std.specs.List.{flat_map, AllZip}
use Rattle.std.proofs.lemmas.List.{append-nil}
use Rattle.script_text.specs.declared.place.Place.TheVariants.{Start, Next}
use Rattle.script_text.specs.declared.header.Header.{Header}
use Rattle.script_text.specs.declared.section.Section.{Section}
use Rattle.script_text.specs.declared.limits.Counts.{Counts}
use Rattle.script_text.specs.Parts.{header_lines, section_lines, section_text}
use Rattle.script_text.specs.Limits.{no_tally, tally_before, header_counts, counts_after}
use Rattle.script_text.specs.Faults.{BeginsSection, IsNextPart}
use Rattle.script_text.specs.Script.{IsNextSection, AreSections, script_counts}
use Rattle.script_text.specs.Laws.{AreLinesOf}
use Rattle.script_text.proofs.Readings.{part_same}
use Rattle.captures.specs.Calls.{SectionCalls}
use Rattle.captures.specs.Sections.{AreCalls, CaptureIsBad, NoPacketAt}
use Rattle.captures.proofs.Outcomes.{one_outcome}
use Rattle.replay_main.specs.declared.fault.Fault.{Fault}
use Rattle.replay_main.specs.declared.fault.Fault.TheVariants as fault
use Rattle.replay_main.specs.Judged.{IsJudged, IsJudgedTo, IsScriptText, Decides}
use Rattle.replay_main.proofs.LineFaults.{PartFails, part_or_fault, part_fault_once}
use Rattle.replay_main.proofs.OneScript.{GoesOnAt, section_begins_text, texts_next, section_part, same_after, header_read, scripts_meet}
use Rattle.replay_main.proofs.OneSection.{section_same}
use Rattle.replay_main.proofs.OneHeader.{header_same}

-- ---- a section without its calls

-- the section's fault, where it passes no limit
abbrev pub Lacks : Section → Fault → Type 0
Lacks s (fault.CaptureBad line place) = CaptureIsBad s line place
Lacks s (fault.NoPacket line) = NoPacketAt s line
Lacks s _ = ⊥

-- a section with this fault goes on there, behind what these counts are of
pub record LacksAt (before : Counts) (rest : List ℕ) (f : Fault) : Type 0 where
  pub section : Section
  pub more : List ℕ
  pub is : IsNextSection before section
  pub read : rest ≡ section_text section ++ more
  pub next : IsNextPart more
  pub lacks : Lacks section f

calls_or_fault : (s : Section) (c : SectionCalls) (f : Fault) → AreCalls s c → Lacks s f → ⊥
calls_or_fault s c (fault.CaptureBad line place) are h = one_outcome.whole s c line place are h
calls_or_fault s c (fault.NoPacket line) are h = one_outcome.full s c line are h
calls_or_fault s c _ are h = h

bad_same : (line other place there : ℕ) → line ≡ other → place ≡ there → fault.CaptureBad line place ≡ fault.CaptureBad other there
bad_same line other place there e f = rw (e, f) refl

lacks_once : (s : Section) (f g : Fault) → Lacks s f → Lacks s g → f ≡ g
lacks_once s (fault.CaptureBad line place) (fault.CaptureBad other there) a b = let same = one_outcome.bad s line place other there a b in bad_same line other place there same.0 same.1
lacks_once s (fault.CaptureBad line place) (fault.NoPacket missing) a b = absurd (one_outcome.apart s line place missing a b)
lacks_once s (fault.NoPacket missing) (fault.CaptureBad line place) a b = absurd (one_outcome.apart s line place missing b a)
lacks_once s (fault.NoPacket line) (fault.NoPacket other) a b = ap (λ (n : ℕ). fault.NoPacket n) (one_outcome.missing s line other a b)
lacks_once s fault.Usage g a b = absurd a
lacks_once s fault.ReadFault g a b = absurd a
lacks_once s fault.WriteFault g a b = absurd a
lacks_once s (fault.Syntax line) g a b = absurd a
lacks_once s (fault.Limit w line) g a b = absurd a
lacks_once s fault.Memory g a b = absurd a
lacks_once s (fault.CaptureBad line place) _ a b = absurd b
lacks_once s (fault.NoPacket line) _ a b = absurd b

-- one section alone stands at a place
one_section : (before : Counts) (rest : List ℕ) (s r : Section) (more other : List ℕ) → IsNextSection before s → rest ≡ section_text s ++ more → IsNextPart more → IsNextSection before r → rest ≡ section_text r ++ other → IsNextPart other → s ≡ r
one_section before rest s r more other p e next q e' then =
    section_same s r p.section q.section (p.first ∙ sym q.first)
    (part_same Next (section_lines s) (section_lines r) rest more other (section_part before s rest more p e next) (section_part before r rest other q e' then)).0

-- ---- the fault at a place

abbrev pub FailsThere : Counts → List ℕ → Fault → Type 0
FailsThere before rest f = PartFails Next (tally_before before) rest (before.lines + 1) f ⊎ LacksAt before rest f

not_there : (before : Counts) (rest : List ℕ) (f : Fault) → GoesOnAt before rest → FailsThere before rest f → ⊥
not_there before rest f at (inl fails) = part_or_fault Next (tally_before before) rest at.more (before.lines + 1) (section_lines at.section) f fails (section_part before at.section rest at.more at.is at.read at.next) at.is.limits
not_there before rest f at (inr lacks) =
    let same = one_section before rest lacks.section at.section lacks.more at.more lacks.is lacks.read lacks.next at.is at.read at.next in
    calls_or_fault at.section at.calls f at.calls_are (subst (λ (s : Section). Lacks s f) same lacks.lacks)

part_or_lacks : (before : Counts) (rest : List ℕ) (f g : Fault) → PartFails Next (tally_before before) rest (before.lines + 1) f → LacksAt before rest g → ⊥
part_or_lacks before rest f g fails at = part_or_fault Next (tally_before before) rest at.more (before.lines + 1) (section_lines at.section) f fails (section_part before at.section rest at.more at.is at.read at.next) at.is.limits

once_there : (before : Counts) (rest : List ℕ) (f g : Fault) → FailsThere before rest f → FailsThere before rest g → f ≡ g
once_there before rest f g (inl a) (inl b) = part_fault_once Next (tally_before before) rest (before.lines + 1) f g a b
once_there before rest f g (inl a) (inr b) = absurd (part_or_lacks before rest f g a b)
once_there before rest f g (inr a) (inl b) = absurd (part_or_lacks before rest g f b a)
once_there before rest f g (inr a) (inr b) =
    let same = one_section before rest a.section b.section a.more b.more a.is a.read a.next b.is b.read b.next in
    lacks_once b.section f g (subst (λ (s : Section). Lacks s f) same a.lacks) b.lacks

-- ---- the fault of a text

-- behind a script of the text a section begins that fails
pub record FailsBehind (text : List ℕ) (f : Fault) : Type 0 where
  pub header : Header
  pub sections : List Section
  pub calls : List SectionCalls
  pub rest : List ℕ
  pub judged : IsJudgedTo text header sections calls rest
  pub begins : BeginsSection rest
  pub fails : FailsThere (script_counts header sections) rest f

-- the header fails, or a section does
abbrev pub FailsIn : List ℕ → Fault → Type 0
FailsIn text f = PartFails Start no_tally text 1 f ⊎ FailsBehind text f

fails_in : (text : List ℕ) (f : Fault) → Decides text f → FailsIn text f
fails_in text (fault.Syntax line) (inl fails) = inl fails
fails_in text (fault.Syntax line) (inr (h, ss, cs, rest, judged, begins, fails)) = inr (record { header = h; sections = ss; calls = cs; rest = rest; judged = judged; begins = begins; fails = inl fails })
fails_in text (fault.Limit w line) (inl fails) = inl fails
fails_in text (fault.Limit w line) (inr (h, ss, cs, rest, judged, begins, fails)) = inr (record { header = h; sections = ss; calls = cs; rest = rest; judged = judged; begins = begins; fails = inl fails })
fails_in text (fault.CaptureBad line place) (h, ss, cs, s, more, judged, is, next, fails) =
    inr (record { header = h; sections = ss; calls = cs; rest = section_text s ++ more; judged = judged; begins = section_begins_text s more; fails = inr (record { section = s; more = more; is = is; read = refl; next = next; lacks = fails }) })
fails_in text (fault.NoPacket line) (h, ss, cs, s, more, judged, is, next, fails) =
    inr (record { header = h; sections = ss; calls = cs; rest = section_text s ++ more; judged = judged; begins = section_begins_text s more; fails = inr (record { section = s; more = more; is = is; read = refl; next = next; lacks = fails }) })
fails_in text fault.Usage d = absurd d
fails_in text fault.ReadFault d = absurd d
fails_in text fault.WriteFault d = absurd d
fails_in text fault.Memory d = absurd d

header_or_fault : (text : List ℕ) (h : Header) (ss : List Section) (cs : List SectionCalls) (rest : List ℕ) (f : Fault) → IsJudgedTo text h ss cs rest → PartFails Start no_tally text 1 f → ⊥
header_or_fault text h ss cs rest f judged fails = part_or_fault Start no_tally text _ 1 (header_lines h) f fails (header_read text h ss cs rest judged) judged.script.header_is.limits

some_left : (rest : List ℕ) → BeginsSection rest → rest ≡ [] → ⊥
some_left rest (more, begins) none = absurd (let z : codes "section\n" ++ more ≡ [] = sym begins ∙ none in cc)

pub script_has_no_fault : (text : List ℕ) (f : Fault) → IsScriptText text → Decides text f → ⊥
script_has_no_fault text f (h, ss, cs, judged) d = elim (fails_in text f d) [
  | inl fails ↦ header_or_fault text h ss cs [] f judged fails
  | inr b ↦ elim (scripts_meet text h b.header ss b.sections cs b.calls [] b.rest judged b.judged) [
    | inl more ↦ not_there (script_counts b.header b.sections) b.rest f more b.fails
    | inr (inl more) ↦ some_left (section_text more.section ++ more.more) (section_begins_text more.section more.more) (sym more.read)
    | inr (inr (same, none)) ↦ some_left b.rest b.begins (sym none)
  ]
]

pub one_fault : (text : List ℕ) (f g : Fault) → Decides text f → Decides text g → f ≡ g
one_fault text f g d e = elim (fails_in text f d) [
  | inl fails ↦ elim (fails_in text g e) [
    | inl other ↦ part_fault_once Start no_tally text 1 f g fails other
    | inr b ↦ absurd (header_or_fault text b.header b.sections b.calls b.rest f b.judged fails)
  ]
  | inr a ↦ elim (fails_in text g e) [
    | inl fails ↦ absurd (header_or_fault text a.header a.sections a.calls a.rest g a.judged fails)
    | inr b ↦ elim (scripts_meet text a.header b.header a.sections b.sections a.calls b.calls a.rest b.rest a.judged b.judged) [
      | inl more ↦ absurd (not_there (script_counts b.header b.sections) b.rest g more b.fails)
      | inr (inl more) ↦ absurd (not_there (script_counts a.header a.sections) a.rest f more a.fails)
      | inr (inr (same, rest)) ↦ once_there (script_counts b.header b.sections) b.rest f g (subst (λ (r : List ℕ). FailsThere (script_counts b.header b.sections) r f) rest (subst (λ (k : Counts). FailsThere k a.rest f) same a.fails)) b.fails
    ]
  ]
]

-- ---- the reading of a script

sections_same : (before now : Counts) (ss rs : List Section) (cs ds : List SectionCalls) → before ≡ now → AreSections before ss → AreSections now rs → AllZip AreCalls ss cs → AllZip AreCalls rs ds
    → flat_map section_text ss ≡ flat_map section_text rs → (ss ≡ rs) × (cs ≡ ds)
sections_same before now [] [] [] [] same are fine calls others e = (refl, refl)
sections_same before now [] [] [] (d ∷ ds) same are fine calls others e = absurd others
sections_same before now [] rs (c ∷ cs) ds same are fine calls others e = absurd calls
sections_same before now (s ∷ ss) rs [] ds same are fine calls others e = absurd calls
sections_same before now ss (r ∷ rs) cs [] same are fine calls others e = absurd others
sections_same before now [] (r ∷ rs) [] (d ∷ ds) same are fine calls others e = absurd (some_left (flat_map section_text (r ∷ rs)) (section_begins_text r (flat_map section_text rs)) (sym e))
sections_same before now (s ∷ ss) [] (c ∷ cs) ds same are fine calls others e = absurd (some_left (flat_map section_text (s ∷ ss)) (section_begins_text s (flat_map section_text ss)) e)
sections_same before now (s ∷ ss) (r ∷ rs) (c ∷ cs) (d ∷ ds) same are fine calls others e =
    let text = flat_map section_text (s ∷ ss) in
    let left = section_part before s text (flat_map section_text ss) are.0 refl (texts_next ss) in
    let right = section_part now r text (flat_map section_text rs) fine.0 e (texts_next rs) in
    let once = part_same Next (section_lines s) (section_lines r) text (flat_map section_text ss) (flat_map section_text rs) left right in
    let here : s ≡ r = section_same s r are.0.section fine.0.section (are.0.first ∙ ap (λ (k : Counts). k.lines + 1) same ∙ sym fine.0.first) once.0 in
    let made : c ≡ d = one_outcome.calls r c d (subst (λ (x : Section). AreCalls x c) here calls.0) others.0 in
    let rest = sections_same (counts_after before s) (counts_after now r) ss rs cs ds (same_after before now s r same once.0) are.1 fine.1 calls.1 others.1 once.1 in
    ((λ i. here i ∷ rest.0 i), (λ i. made i ∷ rest.1 i))

pub one_reading : (text : List ℕ) (h g : Header) (ss rs : List Section) (cs ds : List SectionCalls) → IsJudged text h ss cs → IsJudged text g rs ds → (h ≡ g) × (ss ≡ rs) × (cs ≡ ds)
one_reading text h g ss rs cs ds a b =
    let once = part_same Start (header_lines h) (header_lines g) text (flat_map section_text ss) (flat_map section_text rs) (whole_header text h ss cs a) (whole_header text g rs ds b) in
    let same = header_same h g a.script.header_is.header b.script.header_is.header once.0 in
    let rest = sections_same (header_counts h) (header_counts g) ss rs cs ds (ap header_counts same) a.script.sections_are b.script.sections_are a.calls_are b.calls_are once.1 in
    (same, rest.0, rest.1)
  where
    whole_header : (text : List ℕ) (h : Header) (ss : List Section) (cs : List SectionCalls) → IsJudged text h ss cs → AreLinesOf Start (header_lines h) text (flat_map section_text ss)
    whole_header text h ss cs j = subst (λ (r : List ℕ). AreLinesOf Start (header_lines h) text r) (append-nil (flat_map section_text ss)) (header_read text h ss cs [] j)
