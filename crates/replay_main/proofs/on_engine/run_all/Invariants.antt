use Rattle.std.proofs.Common.{◌≤◌, ◌-◌, ℕ, List, Option}
use Rattle.script_text.specs.declared.header.Header.{Header}
use Rattle.replay_main.specs.OnEngine.{RanSoFar}
use Rattle.replay_main.proofs.on_engine.run_all.Given as goal

abbrev pub invariant-loop-crew : goal.invariant-loop-crew
invariant-loop-crew g l = record {
  so_far : (was : Option (List ℕ)) (header : Header) → RanSoFar was (g.S.Source.left l.initial.source) l.initial.script header l.engine l.fn.crew l.initial.sections →
      RanSoFar was (g.S.Source.left l.source) l.script header l.engine l.crew l.sections;
  count : g.S.Source.faults l.initial.source ≤ g.S.Source.faults l.source;
}

abbrev pub decreases-loop-crew : goal.decreases-loop-crew
decreases-loop-crew g l = 268435456 - l.script.counts.bytes
