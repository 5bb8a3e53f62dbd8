-- A report as readers see it: all of it but for how much room its shelf has left.
use Rattle.std.specs.Prelude.{ℕ, List}
use Rattle.acct_base.specs.declared.amount.Amount.{Amount}
use Rattle.acct_base.specs.declared.register.Write.{Write}
use Rattle.acct_base.specs.declared.amount.Snapshot.{Snapshot}
use Rattle.shelf.specs.declared.report.SectionOut.{SectionOut}
use Rattle.shelf.specs.declared.report.Report.{Report}
use Rattle.shelf.specs.Shelved.{Phases}

pub record Shown : Type 0 where
  pub names : List (ℕ × List ℕ)
  pub sections : List SectionOut
  pub journal : List Write
  pub phases : Phases
  pub live : Snapshot
  pub apps : List (ℕ × Amount)
  pub ifaces : List (ℕ × Amount)

abbrev pub shown : Report → Shown
shown r = record {
  names = r.names;
  sections = r.sections;
  journal = r.journal;
  phases = r.shelf.phases;
  live = r.live;
  apps = r.apps;
  ifaces = r.ifaces;
}
