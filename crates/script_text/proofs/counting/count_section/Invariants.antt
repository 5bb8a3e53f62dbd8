use Rattle.std.proofs.Common.{◌+◌, length}
use Rattle.script_text.specs.Limits.{tally_before}
use Rattle.script_text.specs.Drafts.{IsPassed}
use Rattle.script_text.proofs.counting.count_section.Given as goal

abbrev pub invariant-loop-alloc : goal.invariant-loop-alloc
invariant-loop-alloc l = record {
  passed : IsPassed (tally_before l.fn.before) (l.fn.before.lines + 1) l.fn.bytes l.reader;
}

abbrev pub decreases-loop-alloc : goal.decreases-loop-alloc
decreases-loop-alloc l = length l.reader.rest.now
