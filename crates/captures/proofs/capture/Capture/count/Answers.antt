use Rattle.std.proofs.Common.{arith}
use Rattle.captures.proofs.Standing.{stand_few}
use Rattle.captures.proofs.capture.Capture.count.Goals as goal

pub overflow_cast-result : goal.overflow_cast-result
overflow_cast-result c =
    let few = stand_few _ _ _ _ _ c.self.invariant.0.packets in
    omega (arith, few)
