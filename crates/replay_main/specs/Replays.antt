-- A replay on an engine: its sections ran one after another on a new one, and then it was closed.
use Rattle.std.specs.Prelude.{◌≡◌, ℕ, List, [], ◌++◌, flat_map}
use Rattle.std.specs.List.{AllByRecursion, AllZip}
use Rattle.acct_base.specs.declared.amount.Snapshot.{Snapshot}
use Rattle.acct_base.specs.Amounts.{zero_amount}
use Rattle.acct_base.specs.Receipts.{charges, app_adds, iface_adds}
use Rattle.hook_engine.specs.Passes.{fresh, recorded_reads}
use Rattle.hook_engine.specs.Ends.{Rest, EngineClosed, Told, Ended}
use Rattle.shelf.specs.declared.report.SectionOut.{SectionOut}
use Rattle.shelf.specs.Phases.{IsShelved}
use Rattle.shelf.specs.Shown.{Shown}
use Rattle.captures.specs.Calls.{Asked}
use Rattle.captures.specs.Honest.{IsHonest, all_pairs}
use Rattle.acct_plain.specs.Serial.{serial}
use Rattle.dump_text.specs.Room.{AppsCoverDeletions}
use Rattle.lanes.specs.Progress.{Progress}
use Rattle.lanes.specs.Sections.{CrewRan, IsSerialSection}

-- Nothing was done yet by the crew of a new engine.
abbrev pub nothing_done : ℕ → Progress
nothing_done budget = record {
  pass = fresh budget;
  journal = [];
  gathered = record { phase = 0; given = []; known = λ uid. zero_amount; phases = [] };
}

-- The report of sections, of the phases that the collector put on its shelf, and of what was left of the engine.
abbrev pub report_of : List (ℕ × List ℕ) → List SectionOut → Progress → Rest → Shown
report_of names outs crew rest = record {
  names = names;
  sections = outs;
  journal = rest.journal;
  phases = crew.gathered.phases;
  live = rest.live;
  apps = rest.apps;
  ifaces = rest.ifaces;
}

-- The sections that were asked for ran on a new engine, which was closed then.
pub record HasReplayed (budget : ℕ) (asked : Asked) (crew : Progress) (outs : List SectionOut) (rest : Rest) : Type 0 where
  pub ran : CrewRan budget asked.privileged asked.sizes (nothing_done budget) asked.sections crew outs
  pub closed : EngineClosed asked.sizes crew.pass crew.gathered.given crew.journal rest

-- A tally was told of the report's receipts, of what each charged, added and read, in their order; and of a snapshot for each phase that ended, with all its rows, before a deletion took some out.
pub record IsTold (asked : Asked) (report : Shown) (before after : Told) : Type 0 where
  pub charges : after.charges ≡ before.charges ++ flat_map charges (all_pairs asked.sections report.sections)
  pub apps : after.apps ≡ before.apps ++ flat_map app_adds (all_pairs asked.sections report.sections)
  pub ifaces : after.ifaces ≡ before.ifaces ++ flat_map iface_adds (all_pairs asked.sections report.sections)
  pub reads : after.reads ≡ before.reads ++ flat_map recorded_reads (all_pairs asked.sections report.sections)
  pub given : List Snapshot
  pub snapshots : after.snapshots ≡ before.snapshots ++ given
  pub shelved : AllZip IsShelved given report.phases

-- A replay's report is honest.
abbrev pub ReplayIsHonest : Type 0
ReplayIsHonest =
    (budget : ℕ) (asked : Asked) (crew : Progress) (outs : List SectionOut) (rest : Rest) →
    HasReplayed budget asked crew outs rest → IsHonest asked (report_of asked.names outs crew rest)

-- A tally that is told of the crew's pass and of its collector's seat is told of the report.
abbrev pub ReplayIsTold : Type 0
ReplayIsTold =
    (budget : ℕ) (asked : Asked) (crew : Progress) (outs : List SectionOut) (rest : Rest) (before after : Told) →
    HasReplayed budget asked crew outs rest → Ended crew.pass crew.gathered.given before after → IsTold asked (report_of asked.names outs crew rest) before after

-- Where no section's receipts depend on the order of steps, the report is that of the replay on one thread.
abbrev pub ReplayIsSerial : Type 0
ReplayIsSerial =
    (budget : ℕ) (asked : Asked) (crew : Progress) (outs : List SectionOut) (rest : Rest) →
    HasReplayed budget asked crew outs rest → AllByRecursion IsSerialSection asked.sections → report_of asked.names outs crew rest ≡ serial asked

-- Deletions of a replay recorded of no app more than its total.
abbrev pub ReplayCovers : Type 0
ReplayCovers =
    (budget : ℕ) (asked : Asked) (crew : Progress) (outs : List SectionOut) (rest : Rest) →
    HasReplayed budget asked crew outs rest → AppsCoverDeletions (report_of asked.names outs crew rest)
