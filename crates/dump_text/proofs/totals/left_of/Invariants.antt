use Rattle.std.proofs.Common.{◌≡◌, take}
use Rattle.acct_base.specs.Amounts.{minus}
use Rattle.shelf.specs.Phases.{deleted_app}
use Rattle.dump_text.proofs.totals.left_of.Given as goal

abbrev pub invariant-loop-phase : goal.invariant-loop-phase
invariant-loop-phase l = l.left ≡ minus l.total (deleted_app (take l.phase-index l.phases) l.uid)
