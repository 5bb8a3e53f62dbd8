use Rattle.std.proofs.Common.{◌≡◌, take}
use Rattle.shelf.specs.Phases.{snapshot_rows}
use Rattle.dump_text.proofs.ConditionLemmas.{all_amounts}
use Rattle.dump_text.proofs.tests.conditions.sum_of_snapshots.Given as goal

abbrev pub invariant-loop-phase : goal.invariant-loop-phase
invariant-loop-phase l = l.sum ≡ all_amounts (snapshot_rows (take l.phase-index l.phases))
