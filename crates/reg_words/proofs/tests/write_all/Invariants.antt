use Rattle.std.proofs.Common.{◌≡◌}
use Rattle.reg_words.proofs.tests.write_all.Given as goal

abbrev pub invariant-loop-value : goal.invariant-loop-value
invariant-loop-value l = l.writer.origin ≡ l.regs
