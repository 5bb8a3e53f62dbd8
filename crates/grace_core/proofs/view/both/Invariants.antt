use Rattle.std.proofs.Common.{◌≡◌, take, ◌++◌}
use Rattle.grace_core.proofs.view.both.Given as goal

abbrev pub invariant-loop-charge : goal.invariant-loop-charge
invariant-loop-charge l = l.list ≡ take l.charge-index l.charge-items

abbrev pub invariant-loop-charge-2 : goal.invariant-loop-charge-2
invariant-loop-charge-2 l = l.list ≡ l.fn.first ++ take l.charge-index l.charge-items
