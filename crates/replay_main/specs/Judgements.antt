-- A text has one judgement.
use Rattle.std.specs.Prelude.{◌≡◌, ℕ, List}
use Rattle.script_text.specs.declared.header.Header.{Header}
use Rattle.script_text.specs.declared.section.Section.{Section}
use Rattle.captures.specs.Calls.{SectionCalls}
use Rattle.replay_main.specs.declared.fault.Fault.{Fault}
use Rattle.replay_main.specs.Judged.{IsJudged, IsScriptText, Decides}

-- No fault decides on a script.
abbrev pub ScriptHasNoFault : Type 0
ScriptHasNoFault = (text : List ℕ) (f : Fault) → IsScriptText text → Decides text f → ⊥

-- One fault at most decides on a text.
abbrev pub OneFault : Type 0
OneFault = (text : List ℕ) (f g : Fault) → Decides text f → Decides text g → f ≡ g

-- A script has one reading: its header, its sections and their calls are one.
abbrev pub ScriptIsReadOnce : Type 0
ScriptIsReadOnce = (text : List ℕ) (header other : Header) (sections others : List Section) (calls made : List SectionCalls)
    → IsJudged text header sections calls → IsJudged text other others made → (header ≡ other) × (sections ≡ others) × (calls ≡ made)
