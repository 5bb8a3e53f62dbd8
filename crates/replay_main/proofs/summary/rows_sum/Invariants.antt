use Rattle.std.proofs.Common.{◌≡◌, take}
use Rattle.replay_main.specs.Summary.{rows_sum}
use Rattle.replay_main.proofs.summary.rows_sum.Given as goal

abbrev pub invariant-loop-row : goal.invariant-loop-row
invariant-loop-row l = l.sum ≡ rows_sum l.tagged (take l.row-index l.rows)
