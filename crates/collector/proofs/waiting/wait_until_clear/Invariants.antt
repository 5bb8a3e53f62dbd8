use Rattle.std.proofs.Common.{◌≡◌, false}
use Rattle.grace_rows.specs.Seats.{is_clear}
use Rattle.collector.specs.Collections.{IsOf, began_with}
use Rattle.collector.proofs.waiting.wait_until_clear.Given as goal

abbrev pub invariant-polling : goal.invariant-polling
invariant-polling g l = record {
  from : IsOf l.paired l.collecting;
  same : began_with l.collecting ≡ began_with l.fn.collecting;
  waits : is_clear (l.collecting).flipped ≡ false;
}
