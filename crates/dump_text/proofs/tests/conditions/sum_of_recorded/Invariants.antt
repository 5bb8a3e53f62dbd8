use Rattle.std.proofs.Common.{◌≡◌, take}
use Rattle.shelf.specs.Phases.{deleted_app}
use Rattle.dump_text.proofs.tests.conditions.sum_of_recorded.Given as goal

abbrev pub invariant-loop-phase : goal.invariant-loop-phase
invariant-loop-phase l = l.sum ≡ deleted_app (take l.phase-index l.phases) l.uid
