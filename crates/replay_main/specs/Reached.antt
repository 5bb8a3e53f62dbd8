-- How far a text was judged and replayed, for the contracts of the parts.
use Rattle.std.specs.Prelude.{◌≡◌, ℕ, ◌≤◌, List, length, Option}
use Rattle.std.specs.Io.KnownBytes.{Consumes, IsAtEnd}
use Rattle.std.specs.List.{AllByRecursion}
use Rattle.script_text.specs.declared.header.Header.{Header}
use Rattle.script_text.specs.declared.section.Section.{Section}
use Rattle.script_text.specs.declared.limits.Counts.{Counts}
use Rattle.script_text.specs.Limits.{IsWithinLimits}
use Rattle.script_text.specs.Script.{script_counts}
use Rattle.captures.specs.Calls.{SectionCalls, IsSectionInRange}
use Rattle.captures.specs.Honest.{IsHonest}
use Rattle.shelf.specs.declared.report.SectionOut.{SectionOut}
use Rattle.shelf.specs.declared.report.Report.{Report}
use Rattle.shelf.specs.Shown.{shown}
use Rattle.acct_plain.specs.Kept.{Tables}
use Rattle.acct_plain.specs.Serial.{serial}
use Rattle.acct_plain.specs.Walks.{AreSectionsWalked, calls_of_sections}
use Rattle.replay_main.specs.Judged.{IsJudged, asked_of}

-- What was counted passes no limit, and each line has a byte.
pub record IsWithin (counts : Counts) : Type 0 where
  pub limits : IsWithinLimits counts
  pub lines : counts.lines ≤ counts.bytes

-- The text was judged, and this was counted.
pub record IsCounted (text : List ℕ) (counts : Counts) : Type 0 where
  pub header : Header
  pub sections : List Section
  pub calls : List SectionCalls
  pub judged : IsJudged text header sections calls
  pub counts_are : counts ≡ script_counts header sections
  pub within : IsWithin counts

-- The text was judged and replayed: what the tables had at first and have now is what the walk of the sections leaves.
pub record IsReplayedTo (text : List ℕ) (header : Header) (counts : Counts) (first now : Tables) (outs : List SectionOut) : Type 0 where
  pub sections : List Section
  pub calls : List SectionCalls
  pub judged : IsJudged text header sections calls
  pub counts_are : counts ≡ script_counts header sections
  pub within : IsWithin counts
  pub ranges : AllByRecursion IsSectionInRange calls
  pub walked : AreSectionsWalked first now calls outs
  pub sizes : now.sizes ≡ first.sizes
  pub privileged : now.book.privileged ≡ first.book.privileged
  pub few_calls : calls_of_sections calls ≤ counts.hooks
  pub few_phases : length now.phases ≤ counts.collections

-- All that a source had was read, and it was this text, which is no longer than a script may be.
pub record IsRead (was now : Option (List ℕ)) (text : List ℕ) : Type 0 where
  pub read : Consumes was now text
  pub end : IsAtEnd now
  pub within : length text ≤ 268435456

-- The text is a script, and the report is that of its replay on one thread, which is honest to what the script asks for.
pub record IsPlain (text : List ℕ) (report : Report) : Type 0 where
  pub header : Header
  pub sections : List Section
  pub calls : List SectionCalls
  pub judged : IsJudged text header sections calls
  pub serial_is : shown report ≡ serial (asked_of header calls)
  pub honest : IsHonest (asked_of header calls) (shown report)

-- The text is a script, and these are its counts.
pub record IsCheckedAs (text : List ℕ) (counts : Counts) : Type 0 where
  pub header : Header
  pub sections : List Section
  pub calls : List SectionCalls
  pub judged : IsJudged text header sections calls
  pub counts_are : counts ≡ script_counts header sections
