-- How a room for what is left of an engine shows what it holds.
use Rattle.hook_engine.specs.declared.room.CloseRoom.TheInside.{Inside}
use Rattle.hook_engine.specs.Ends.{Room}

-- What its four rooms hold.
abbrev pub room_state : Inside → Room
room_state r = record { rows = r.snapshot; writes = r.journal; apps = r.apps; ifaces = r.ifaces }
