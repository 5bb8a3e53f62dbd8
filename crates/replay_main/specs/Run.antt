-- What a run reads, gives and writes.
use Rattle.std.specs.Prelude.{◌≡◌, ℕ, List, [], ◌∷◌, codes, decimal, Option, None, Some}
use Rattle.std.specs.List.{AllByRecursion}
use Rattle.acct_base.specs.Text.{line_text}
use Rattle.script_text.specs.declared.header.Header.{Header}
use Rattle.script_text.specs.declared.section.Section.{Section}
use Rattle.script_text.specs.declared.limits.Counts.{Counts}
use Rattle.script_text.specs.Script.{looked_at}
use Rattle.hook_engine.specs.Ends.{Told}
use Rattle.captures.specs.Calls.{SectionCalls, Asked}
use Rattle.captures.specs.Honest.{IsHonest}
use Rattle.shelf.specs.declared.report.Report.{Report}
use Rattle.shelf.specs.Shown.{Shown, shown}
use Rattle.acct_plain.specs.Serial.{serial}
use Rattle.dump_text.specs.Dump.{dump}
use Rattle.outside.specs.Generated.{generated}
use Rattle.lanes.specs.Sections.{IsSerialSection}
use Rattle.replay_main.specs.declared.fault.Fault.{Fault}
use Rattle.replay_main.specs.declared.fault.Fault.TheVariants as fault
use Rattle.replay_main.specs.declared.words.Form.{Form}
use Rattle.replay_main.specs.declared.words.Form.TheVariants.{Replay, Plain, Check, Gen, Bulk}
use Rattle.replay_main.specs.Judged.{IsJudged, Decides, IsScriptText, asked_of}
use Rattle.replay_main.specs.Reached.{IsRead, IsPlain, IsCheckedAs}
use Rattle.replay_main.specs.Replays.{IsTold}
use Rattle.replay_main.specs.Summary.{summary}

-- A tally was told of a report, where it tells what it is told.
abbrev pub WasTold : Asked → Shown → Option Told → Option Told → Type 0
WasTold asked report None after = Unit {0}
WasTold asked report (Some before) None = ⊥
WasTold asked report (Some before) (Some after) = IsTold asked report before after

-- The text is a script, which was replayed on an engine.
pub record IsReplayed (text : List ℕ) (report : Report) (before after : Option Told) : Type 0 where
  pub header : Header
  pub sections : List Section
  pub calls : List SectionCalls
  pub judged : IsJudged text header sections calls
  -- The report is honest to what the script asks for, whatever the order in which lanes, desk and collector took their steps.
  pub honest : IsHonest (asked_of header calls) (shown report)
  -- Where no section's receipts depend on that order, it is the report of the replay on one thread.
  pub serial : AllByRecursion IsSerialSection calls → shown report ≡ serial (asked_of header calls)
  -- What the engine's tables got is what the receipts say.
  pub told : WasTold (asked_of header calls) (shown report) before after

-- The line that tells the counts of a script.
abbrev pub check_text : Counts → List ℕ
check_text c = line_text (
    codes "check" ∷ codes "lines" ∷ decimal c.lines ∷ codes "sections" ∷ decimal c.sections ∷ codes "hooks" ∷ decimal c.hooks ∷ codes "desk"
    ∷ decimal c.desk_lines ∷ []
    )

-- What is true of a text is true of what a source had left, where it tells that.
abbrev pub WasSo : (List ℕ → Type 0) → Option (List ℕ) → Type 0
WasSo So None = Unit {0}
WasSo So (Some text) = So text

-- The source tells what it has left, and that is so.
abbrev pub TellsSo : (List ℕ → Type 0) → Option (List ℕ) → Type 0
TellsSo So None = ⊥
TellsSo So (Some text) = So text

-- A fault decides on what is looked at of a text. Of one that passes the limit on bytes only the bytes up to the one that passes it are.
abbrev pub DecidesOn : Fault → List ℕ → Type 0
DecidesOn f text = Decides (looked_at text) f

-- What is looked at of a text is a script.
abbrev pub LooksLikeScript : List ℕ → Type 0
LooksLikeScript text = IsScriptText (looked_at text)

-- The text that a run of a form judges, where that is told: what its source had left, with `bulk` the generated script, and with `gen` none.
abbrev pub judged_text : Form → Option (List ℕ) → Option (List ℕ)
judged_text (Gen rounds) left = None
judged_text (Bulk rounds) left = Some (generated rounds)
judged_text _ left = left

-- A run of a form came to its script: it read all that its source had, or the script was generated, and nothing was read.
abbrev pub ComesTo : Form → Option (List ℕ) → Option (List ℕ) → List ℕ → Type 0
ComesTo (Gen rounds) was now script = (script ≡ generated rounds) × (now ≡ was)
ComesTo (Bulk rounds) was now script = (script ≡ generated rounds) × (now ≡ was)
ComesTo _ was now script = IsRead was now script

-- What a run of a form gives for a script, and has to write: for `replay` the report of a replay on an engine and its dump; for `plain`
-- that of the replay on one thread and its dump; for `check` the counts of the script; for `gen` the script; for `bulk` the report of a
-- replay on an engine and its summary.
abbrev pub Gives : Form → List ℕ → Option Told → Option Told → Option Report → List ℕ → Type 0
Gives (Replay receipts) script before after (Some report) text = IsReplayed script report before after × (text ≡ dump (shown report) receipts)
Gives (Plain receipts) script before after (Some report) text = IsPlain script report × (text ≡ dump (shown report) receipts)
Gives Check script before after None text = (counts : Counts) × IsCheckedAs script counts × (text ≡ check_text counts)
Gives (Gen rounds) script before after None text = text ≡ script
Gives (Bulk rounds) script before after (Some report) text = IsReplayed script report before after × (text ≡ summary rounds (shown report))
Gives _ script before after _ text = ⊥

-- A run did what its words ask for: it came to its script, told the tally, and wrote all of its text, or a front of it.
pub record HasRun (form : Form) (was now : Option (List ℕ)) (before after : Option Told) (report : Option Report) (Writes : List ℕ → Type 0) : Type 0 where
  pub script : List ℕ
  pub read : ComesTo form was now script
  pub text : List ℕ
  pub gives : Gives form script before after report text
  pub writes : Writes text

-- The fault is one of the text's.
abbrev pub IsOfText : Fault → Type 0
IsOfText (fault.Syntax line) = Unit {0}
IsOfText (fault.Limit which line) = Unit {0}
IsOfText (fault.CaptureBad line place) = Unit {0}
IsOfText (fault.NoPacket line) = Unit {0}
IsOfText _ = ⊥
