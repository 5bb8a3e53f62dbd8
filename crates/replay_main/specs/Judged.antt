-- What a text comes to: a script with the calls of its sections, or the fault that decides.
--
-- The header is judged first, and then the sections in order. Within a part the first line that leaves the grammar or passes a limit
-- decides; then the section's capture; then the first line that lacks its packet.
use Rattle.std.specs.Prelude.{◌≡◌, ◌⊎◌, ℕ, ◌+◌, List, [], ◌++◌}
use Rattle.std.specs.List.{AllZip}
use Rattle.script_text.specs.declared.header.Header.{Header}
use Rattle.script_text.specs.declared.section.Section.{Section}
use Rattle.script_text.specs.declared.limits.Tally.{Tally}
use Rattle.script_text.specs.declared.place.Place.{Place}
use Rattle.script_text.specs.declared.place.Place.TheVariants as places
use Rattle.script_text.specs.Limits.{no_tally, tally_before}
use Rattle.script_text.specs.Parts.{section_text}
use Rattle.script_text.specs.Faults.{BeginsSection, IsNextPart, FailsAt, SyntaxAt, LimitAt}
use Rattle.script_text.specs.Script.{IsScript, IsNextSection, script_text, script_counts}
use Rattle.captures.specs.Calls.{SectionCalls, Asked}
use Rattle.captures.specs.Sections.{AreCalls, CaptureIsBad, NoPacketAt}
use Rattle.replay_main.specs.declared.fault.Fault.{Fault}
use Rattle.replay_main.specs.declared.fault.Fault.TheVariants as fault

-- The text begins with a script, whose sections have these calls, and this is left of it: nothing, or another section begins.
pub record IsJudgedTo (text : List ℕ) (header : Header) (sections : List Section) (calls : List SectionCalls) (rest : List ℕ) : Type 0 where
  pub script : IsScript header sections
  pub read : text ≡ script_text header sections ++ rest
  pub calls_are : AllZip AreCalls sections calls
  pub next : IsNextPart rest

-- The text is a script, whose sections have these calls.
abbrev pub IsJudged : List ℕ → Header → List Section → List SectionCalls → Type 0
IsJudged text header sections calls = IsJudgedTo text header sections calls []

-- A line decides: it is the first of the header that fails, or of the section behind what was judged.
abbrev pub LineDecides : List ℕ → ℕ → (Place → List (List ℕ) → Tally → List ℕ → Type 0) → Type 0
LineDecides text line Fails =
    FailsAt places.Start no_tally text 1 line Fails
    ⊎ ((header : Header) × (sections : List Section) × (calls : List SectionCalls) × (rest : List ℕ)
    × IsJudgedTo text header sections calls rest × BeginsSection rest
    × FailsAt places.Next (tally_before (script_counts header sections)) rest ((script_counts header sections).lines + 1) line Fails)

-- A section decides that is of the grammar and passes no limit: the next one behind what was judged fails in this way.
abbrev pub SectionDecides : List ℕ → (Section → Type 0) → Type 0
SectionDecides text Fails =
    (header : Header) × (sections : List Section) × (calls : List SectionCalls) × (section : Section) × (rest : List ℕ)
    × IsJudgedTo text header sections calls (section_text section ++ rest)
    × IsNextSection (script_counts header sections) section × IsNextPart rest × Fails section

-- The fault that decides on a text. The other faults of a run are none of the text's.
abbrev pub Decides : List ℕ → Fault → Type 0
Decides text (fault.Syntax line) = LineDecides text line SyntaxAt
Decides text (fault.Limit which line) = LineDecides text line (LimitAt which)
Decides text (fault.CaptureBad line place) = SectionDecides text (λ section. CaptureIsBad section line place)
Decides text (fault.NoPacket line) = SectionDecides text (λ section. NoPacketAt section line)
Decides text _ = ⊥

-- The text is a script.
abbrev pub IsScriptText : List ℕ → Type 0
IsScriptText text = (header : Header) × (sections : List Section) × (calls : List SectionCalls) × IsJudged text header sections calls

-- What a script asks for.
abbrev pub asked_of : Header → List SectionCalls → Asked
asked_of header calls = record { names = header.names; privileged = header.privileged; sizes = header.sizes; sections = calls }
