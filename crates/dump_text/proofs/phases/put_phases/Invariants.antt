use Rattle.std.proofs.Common.{take}
use Rattle.std.specs.List.{flat_map}
use Rattle.dump_text.specs.Dump.{phase_text}
use Rattle.dump_text.specs.Pages.{Puts}
use Rattle.dump_text.proofs.phases.put_phases.Given as goal

abbrev pub invariant-loop-phase : goal.invariant-loop-phase
invariant-loop-phase g l = Puts g.K.Sink.written g.K.Sink.faults l.initial.page l.page (flat_map (phase_text l.names) (take l.phase-index l.phase-items))
