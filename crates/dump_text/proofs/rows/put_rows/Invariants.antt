use Rattle.std.proofs.Common.{take}
use Rattle.std.specs.List.{flat_map}
use Rattle.dump_text.specs.Dump.{row_text}
use Rattle.dump_text.specs.Pages.{Puts}
use Rattle.dump_text.proofs.rows.put_rows.Given as goal

abbrev pub invariant-loop-row : goal.invariant-loop-row
invariant-loop-row g l = Puts g.K.Sink.written g.K.Sink.faults l.initial.page l.page (flat_map (row_text l.names) (take l.row-index l.rows))
