use Rattle.std.proofs.Common.{◌≡◌, ℕ, List, ◌++◌, length}
use Rattle.script_text.specs.Cuts.{IsOpen}
use Rattle.script_text.proofs.cutter.find_cut.Given as goal

abbrev pub invariant-loop-text : goal.invariant-loop-text
invariant-loop-text l = (seen : List ℕ) × (l.fn.piece ≡ seen ++ l.rest) × IsOpen (l.fn.held ++ seen) l.start l.head

abbrev pub decreases-loop-text : goal.decreases-loop-text
decreases-loop-text l = length l.rest
