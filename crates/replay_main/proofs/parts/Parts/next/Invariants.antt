use Rattle.std.proofs.Common.{◌-◌, ◌≤◌}
use Rattle.replay_main.specs.Incoming.{IsReader, HasTaken}
use Rattle.replay_main.proofs.Feeding.{ReadSince}
use Rattle.replay_main.proofs.parts.Parts.next.Given as goal

abbrev pub invariant-loop-bytes : goal.invariant-loop-bytes
invariant-loop-bytes g l = record {
  reader : IsReader l.self;
  more : ReadSince (g.S.Source.left l.initial.source) (g.S.Source.left l.source) l.initial.self l.self;
  taken : HasTaken (g.S.Source.left l.initial.source) (g.S.Source.left l.source) l.initial.self l.self;
  count : g.S.Source.faults l.initial.source ≤ g.S.Source.faults l.source;
}

abbrev pub decreases-loop-bytes : goal.decreases-loop-bytes
decreases-loop-bytes g l = 268435457 - l.self.count
