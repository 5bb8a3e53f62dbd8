use Rattle.std.proofs.Common.{take}
use Rattle.std.specs.List.{flat_map}
use Rattle.dump_text.specs.Dump.{app_left_text}
use Rattle.dump_text.specs.Pages.{Puts}
use Rattle.dump_text.proofs.totals.put_apps_left.Given as goal

abbrev pub invariant-loop-app : goal.invariant-loop-app
invariant-loop-app g l = Puts g.K.Sink.written g.K.Sink.faults l.initial.page l.page (flat_map (app_left_text l.phases) (take l.app-index l.apps))
