use Rattle.std.proofs.Common.{take}
use Rattle.std.specs.List.{flat_map}
use Rattle.dump_text.specs.Dump.{iface_text}
use Rattle.dump_text.specs.Pages.{Puts}
use Rattle.dump_text.proofs.totals.put_totals.Given as goal

abbrev pub invariant-loop-total : goal.invariant-loop-total
invariant-loop-total g l = Puts g.K.Sink.written g.K.Sink.faults l.initial.page l.page (flat_map (iface_text l.names) (take l.total-index l.total-items))
