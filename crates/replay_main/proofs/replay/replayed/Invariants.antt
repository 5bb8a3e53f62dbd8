use Rattle.std.proofs.Common.{◌-◌, ◌≤◌}
use Rattle.replay_main.specs.Incoming.{ReplayedSoFar}
use Rattle.replay_main.proofs.replay.replayed.Given as goal

abbrev pub invariant-loop-sections : goal.invariant-loop-sections
invariant-loop-sections g l = record {
  so_far : ReplayedSoFar (g.S.Source.left l.fn.source) (g.S.Source.left l.source) l.script l.header l.initial.plain l.plain l.sections;
  count : g.S.Source.faults l.fn.source ≤ g.S.Source.faults l.source;
}

abbrev pub decreases-loop-sections : goal.decreases-loop-sections
decreases-loop-sections g l = 268435456 - l.script.counts.bytes
