use Rattle.std.proofs.Common.{take}
use Rattle.std.specs.List.{flat_map}
use Rattle.dump_text.specs.Dump.{receipt_text}
use Rattle.dump_text.specs.Pages.{Puts}
use Rattle.dump_text.proofs.receipts.put_section.Given as goal

abbrev pub invariant-loop-lane : goal.invariant-loop-lane
invariant-loop-lane g l = Puts g.K.Sink.written g.K.Sink.faults l.initial.page l.page (flat_map (flat_map receipt_text) (take l.lane-index l.lane-items))
