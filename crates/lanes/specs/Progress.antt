-- What a crew did so far.
use Rattle.std.specs.Prelude.{ℕ, List}
use Rattle.acct_base.specs.declared.register.Write.{Write}
use Rattle.captures.specs.Runs.{Past}
use Rattle.hook_engine.specs.Passes.{Pass, IsSole}
use Rattle.collector.specs.Collectors.{Gathered, IsLevel}

-- What the crew's pass has, the journal of its desk, and what its collector gathered.
pub record Progress : Type 0 where
  pub pass : Pass
  pub journal : List Write
  pub gathered : Gathered

-- The same as a replay's past: the writes, the phases that ended, the charges, and the adds to apps and to interfaces.
abbrev pub past_of : Progress → Past
past_of crew = record {
  journal = crew.journal;
  phases = crew.gathered.phases;
  charges = crew.pass.charges;
  apps = crew.pass.apps;
  ifaces = crew.pass.ifaces;
}

-- Between two sections the crew has all calls of its engine, and its collector is level.
pub record IsWhole (budget : ℕ) (crew : Progress) : Type 0 where
  pub sole : IsSole budget crew.pass
  pub level : IsLevel crew.gathered
