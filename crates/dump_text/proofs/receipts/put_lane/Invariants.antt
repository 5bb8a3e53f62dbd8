use Rattle.std.proofs.Common.{take}
use Rattle.std.specs.List.{flat_map}
use Rattle.dump_text.specs.Dump.{receipt_text}
use Rattle.dump_text.specs.Pages.{Puts}
use Rattle.dump_text.proofs.receipts.put_lane.Given as goal

abbrev pub invariant-loop-place : goal.invariant-loop-place
invariant-loop-place g l = Puts g.K.Sink.written g.K.Sink.faults l.initial.page l.page (flat_map receipt_text (take l.place l.lane))
