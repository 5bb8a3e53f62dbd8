use Rattle.std.proofs.Common.{◌≡◌}
use Rattle.reg_words.proofs.tests.read_all.Given as goal

abbrev pub invariant-loop : goal.invariant-loop
invariant-loop l = l.reader.origin ≡ l.regs
