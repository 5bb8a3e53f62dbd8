-- A crew, and the engine that it is of.
use Rattle.std.specs.Prelude.{◌≡◌}
use Rattle.hook_engine.specs.Tables.{EngineState, AreSeatsOf}
use Rattle.desk_regs.specs.Desks.{IsLevel as IsLevelDesk}
use Rattle.collector.specs.Collectors.{gathered_by}
use Rattle.lanes.specs.declared.crew.Crew.{Crew}
use Rattle.lanes.specs.Progress.{Progress, IsWhole}

-- What the crew did so far. The journal of a level desk is its book's and its writer's.
abbrev pub progress_of : Crew → Progress
progress_of crew = record { pass = crew.pass.has; journal = crew.desk.book.journal; gathered = gathered_by crew.collector }

-- The crew's pass and seats came from the engine.
pub record IsCrewOf (engine : EngineState) (crew : Crew) : Type 0 where
  pub pass : crew.pass.tables ≡ engine.tables
  pub seats : AreSeatsOf engine.tables crew.desk.writer crew.collector.seat crew.collector.apps

-- The crew is as it is between two sections: its pass has all calls of the engine, and its desk and its collector are level.
pub record IsReady (engine : EngineState) (crew : Crew) : Type 0 where
  pub of : IsCrewOf engine crew
  pub whole : IsWhole engine.sizes.calls (progress_of crew)
  pub desk : IsLevelDesk crew.desk
