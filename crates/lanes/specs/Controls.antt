-- The desk and the collector of a section, and what commands do to them.
use Rattle.std.specs.Prelude.{◌≡◌, ℕ, List}
use Rattle.desk_core.specs.declared.command.Command.{Command}
use Rattle.desk_core.specs.declared.command.Reply.{Reply}
use Rattle.desk_regs.specs.Desks.{IsLevel as IsLevelDesk, with_journal}
use Rattle.hook_engine.specs.Tables.{EngineState, AreSeatsOf}
use Rattle.collector.specs.Collectors.{IsLevel, HasSameSeats, gathered_by}
use Rattle.lanes.specs.declared.desk.Control.{Control}
use Rattle.lanes.specs.Desks.{CarriedOut, DeskRan}

-- Its seats came from the engine.
abbrev pub IsControlOf : EngineState → Control → Type 0
IsControlOf engine control = AreSeatsOf engine.tables control.desk.writer control.collector.seat control.collector.apps

-- Both are level.
pub record IsLevelControl (control : Control) : Type 0 where
  pub desk : IsLevelDesk control.desk
  pub collector : IsLevel (gathered_by control.collector)

-- What commands leave: of the desk all but the journal, and the collector's seats.
pub record Keeps (before after : Control) : Type 0 where
  pub desk : after.desk ≡ with_journal after.desk.book.journal before.desk
  pub seats : HasSameSeats before.collector after.collector

-- A command was carried out, and answered so.
abbrev pub Obeyed : Control → Command → Reply → Control → Type 0
Obeyed before command answer after = CarriedOut before.desk.book.privileged before.desk.book.limits
    before.desk.book.journal (gathered_by before.collector) command answer after.desk.book.journal (gathered_by after.collector)

-- The lines of a desk were carried out, and answered so.
abbrev pub ObeyedAll : Control → List (ℕ × Command) → List (ℕ × Reply) → Control → Type 0
ObeyedAll before lines replies after = DeskRan before.desk.book.privileged before.desk.book.limits
    before.desk.book.journal (gathered_by before.collector) lines replies after.desk.book.journal (gathered_by after.collector)
