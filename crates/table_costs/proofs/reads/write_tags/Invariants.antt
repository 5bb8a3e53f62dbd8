use Rattle.std.proofs.Common.{◌≡◌}
use Rattle.table_costs.proofs.reads.write_tags.Given as goal

abbrev pub invariant-loop-index : goal.invariant-loop-index
invariant-loop-index l = l.writer.origin ≡ l.regs
