-- How far a script was judged and run on an engine, for the contracts of the parts.
use Rattle.std.specs.Prelude.{◌≡◌, ℕ, ◌+◌, ◌≤◌, List, [], ◌∷◌, ◌++◌, length, Option}
use Rattle.std.specs.List.{AllByRecursion}
use Rattle.script_text.specs.declared.header.Header.{Header}
use Rattle.script_text.specs.declared.section.Section.{Section}
use Rattle.script_text.specs.declared.limits.Counts.{Counts}
use Rattle.script_text.specs.Script.{script_counts}
use Rattle.captures.specs.Calls.{SectionCalls, IsSectionInRange}
use Rattle.captures.specs.Sections.{AreCalls}
use Rattle.shelf.specs.declared.report.SectionOut.{SectionOut}
use Rattle.acct_plain.specs.Walks.{calls_of_sections}
use Rattle.hook_engine.specs.Tables.{EngineState}
use Rattle.lanes.specs.declared.crew.Crew.{Crew}
use Rattle.lanes.specs.Crews.{IsReady, progress_of}
use Rattle.lanes.specs.Desks.{collecting}
use Rattle.lanes.specs.Lanes.{calls_made}
use Rattle.lanes.specs.Sections.{SectionDone, CrewRan}
use Rattle.replay_main.specs.declared.fault.Fault.{Fault}
use Rattle.replay_main.specs.declared.fault.Fault.TheVariants as fault
use Rattle.replay_main.specs.declared.incoming.Incoming.{Incoming}
use Rattle.replay_main.specs.Incoming.{HasCome}
use Rattle.replay_main.specs.Judged.{IsJudged}
use Rattle.replay_main.specs.Reached.{IsWithin}
use Rattle.replay_main.specs.Replays.{nothing_done}

-- A new engine for a script with this header, and its crew, which did nothing yet.
pub record IsOpened (header : Header) (engine : EngineState) (crew : Crew) : Type 0 where
  pub sizes : engine.sizes ≡ header.sizes
  pub ready : IsReady engine crew
  pub first : progress_of crew ≡ nothing_done header.sizes.calls
  pub privileged : crew.desk.book.privileged ≡ header.privileged

-- The crew has the calls that these lanes make, and its phase leaves room for those that the desk may end.
pub record MayRun (crew : Crew) (calls : SectionCalls) : Type 0 where
  pub enough : calls_made calls.lanes ≤ crew.pass.has.left
  pub early : crew.collector.seat.phase + length (collecting calls.desk) ≤ 1024

-- A section ran on an engine, and its receipts and replies stand behind those of the sections before.
pub record SectionAdds (engine : EngineState) (before : Crew) (section : Section) (outs : List SectionOut) (after : Crew) (more : List SectionOut) : Type 0 where
  pub calls : SectionCalls
  pub are : AreCalls section calls
  pub range : IsSectionInRange calls
  pub out : SectionOut
  pub done : SectionDone engine.sizes.calls before.desk.book.privileged engine.sizes (progress_of before) calls (progress_of after) out
  pub pushed : more ≡ outs ++ out ∷ []
  pub ready : IsReady engine after
  pub privileged : after.desk.book.privileged ≡ before.desk.book.privileged

-- The text was judged, and its sections ran on an engine: this is its crew now, and these are the sections' receipts and replies.
pub record IsRunTo (text : List ℕ) (header : Header) (counts : Counts) (engine : EngineState) (crew : Crew) (outs : List SectionOut) : Type 0 where
  pub sections : List Section
  pub calls : List SectionCalls
  pub judged : IsJudged text header sections calls
  pub counts_are : counts ≡ script_counts header sections
  pub within : IsWithin counts
  pub ranges : AllByRecursion IsSectionInRange calls
  pub sizes : engine.sizes ≡ header.sizes
  pub privileged : crew.desk.book.privileged ≡ header.privileged
  pub ran : CrewRan header.sizes.calls header.privileged header.sizes (nothing_done header.sizes.calls) calls (progress_of crew) outs
  pub ready : IsReady engine crew
  -- The crew has a call left for each packet that may come, and its phase leaves room for those that may end.
  pub few : calls_of_sections calls ≤ counts.hooks
  pub few_calls : 1048576 ≤ crew.pass.has.left + counts.hooks
  pub few_phases : crew.collector.seat.phase ≤ counts.collections

-- What has come in was judged and run.
abbrev pub RanSoFar : Option (List ℕ) → Option (List ℕ) → Incoming → Header → EngineState → Crew → List SectionOut → Type 0
RanSoFar was now i header engine crew outs = (front : List ℕ) × HasCome was now i front × IsRunTo front header i.counts engine crew outs

-- A fault that finding a section's calls and running them may have.
abbrev pub IsCallsFault : Fault → Type 0
IsCallsFault (fault.CaptureBad line place) = Unit {0}
IsCallsFault (fault.NoPacket line) = Unit {0}
IsCallsFault fault.Memory = Unit {0}
IsCallsFault _ = ⊥
