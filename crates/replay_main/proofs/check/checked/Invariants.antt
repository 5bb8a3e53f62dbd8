use Rattle.std.proofs.Common.{◌-◌, ◌≤◌}
use Rattle.replay_main.proofs.Coming.{CountedSoFar}
use Rattle.replay_main.proofs.check.checked.Given as goal

abbrev pub invariant-loop-script : goal.invariant-loop-script
invariant-loop-script g l = record {
  so_far : CountedSoFar (g.S.Source.left l.fn.source) (g.S.Source.left l.source) l.script;
  count : g.S.Source.faults l.fn.source ≤ g.S.Source.faults l.source;
}

abbrev pub decreases-loop-script : goal.decreases-loop-script
decreases-loop-script g l = 268435456 - l.script.counts.bytes
