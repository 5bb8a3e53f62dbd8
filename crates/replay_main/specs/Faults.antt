-- The faults of a run.
use Rattle.std.specs.Prelude.{ℕ, Option, Some, None}
use Rattle.outside.specs.declared.whole.ReadError.{ReadError}
use Rattle.outside.specs.declared.whole.ReadError.TheVariants as reading
use Rattle.captures.specs.declared.section.ResolveFault.{ResolveFault}
use Rattle.captures.specs.declared.section.ResolveFault.TheVariants as resolving
use Rattle.script_text.specs.declared.fault.ScriptFault.{ScriptFault}
use Rattle.script_text.specs.declared.fault.ScriptFault.TheVariants as script
use Rattle.replay_main.specs.declared.fault.Fault.{Fault}
use Rattle.replay_main.specs.declared.fault.Fault.TheVariants as fault

-- The status with which the program ends.
abbrev pub status_of : Option Fault → ℕ
status_of None = 0
status_of (Some fault.Usage) = 2
status_of (Some fault.ReadFault) = 3
status_of (Some fault.WriteFault) = 4
status_of (Some (fault.Syntax line)) = 5
status_of (Some (fault.Limit which line)) = 6
status_of (Some (fault.CaptureBad line place)) = 7
status_of (Some (fault.NoPacket line)) = 8
status_of (Some fault.Memory) = 9

-- The fault of a run whose source could not be read on.
abbrev pub read_fault : ReadError → Fault
read_fault reading.Failed = fault.ReadFault
read_fault reading.Memory = fault.Memory

-- The fault of a run whose script was not read.
abbrev pub script_fault : ScriptFault → Fault
script_fault (script.Syntax line) = fault.Syntax line
script_fault (script.Limit which line) = fault.Limit which line
script_fault script.Memory = fault.Memory

-- The fault of a run whose script has a section without all its calls.
abbrev pub resolve_fault : ResolveFault → Fault
resolve_fault (resolving.CaptureBad line place) = fault.CaptureBad line place
resolve_fault (resolving.NoPacket line) = fault.NoPacket line
resolve_fault resolving.Memory = fault.Memory

-- A fault that reading and judging may have.
abbrev pub IsJudgingFault : Fault → Type 0
IsJudgingFault fault.Usage = ⊥
IsJudgingFault fault.WriteFault = ⊥
IsJudgingFault _ = Unit {0}
