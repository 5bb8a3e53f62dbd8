use Rattle.std.proofs.Common.{◌≡◌, ◌≤◌, ◌-◌, ◌++◌, length, take, drop}
use Rattle.outside.proofs.generated.GenSourceSource.read.Given as goal

abbrev pub invariant-loop-n : goal.invariant-loop-n
invariant-loop-n l = record {
  within : l.n ≤ length l.into;
  given : l.initial.self ≡ take l.n l.into ++ l.self;
  kept : drop l.n l.into ≡ drop l.n l.initial.into;
}

abbrev pub decreases-loop-n : goal.decreases-loop-n
decreases-loop-n l = length l.initial.into - l.n
