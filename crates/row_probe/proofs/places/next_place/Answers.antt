use Rattle.std.proofs.Common.{arith}
use Rattle.row_probe.proofs.Turns.{next-at, next-before}
use Rattle.row_probe.proofs.places.next_place.Goals as goal

pub returns-then-place-rows-clause-follows : goal.returns-then-place-rows-clause-follows
returns-then-place-rows-clause-follows c k1 k2 turn e =
    next-at k1 k2 turn c.args.place c.args.rows (omega (arith, c.requires)) c.if-place-rows.true e

pub returns-else-place-rows-clause-follows : goal.returns-else-place-rows-clause-follows
returns-else-place-rows-clause-follows c k1 k2 turn e =
    next-before k1 k2 turn c.args.place c.args.rows (omega (arith, c.requires)) c.if-place-rows.false e
