use Rattle.std.proofs.Common.{◌≡◌}
use Rattle.collector.specs.Collectors.{IsLevel, gathered_by}
use Rattle.collector.proofs.tests.collect_often.Given as goal

abbrev pub invariant-loop-phase : goal.invariant-loop-phase
invariant-loop-phase g l = record {
  maps : (l.collector).seat.table ≡ (l.paired).table;
  apps : (l.collector).apps.table ≡ (l.apps).table;
  level : IsLevel (gathered_by l.collector);
}
