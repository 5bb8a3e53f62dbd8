use Rattle.std.proofs.Common.{◌≡◌}
use Rattle.desk_regs.specs.Desks.{IsLevel}
use Rattle.desk_regs.proofs.tests.answers.Given as goal

abbrev pub invariant-loop-command : goal.invariant-loop-command
invariant-loop-command g l = record {
  from : (l.desk).writer.origin ≡ l.regs;
  level : IsLevel l.desk;
}
