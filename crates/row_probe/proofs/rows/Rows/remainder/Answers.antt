use Rattle.std.proofs.Common.{◌≡◌, ◌<◌, ◌%◌, ◌/◌, ◌∙◌, sym, ap, arith}
use Rattle.row_probe.proofs.Remainders.{not-above, rest-is, rest-less, rest-below}
use Rattle.row_probe.proofs.rows.Rows.remainder.Goals as goal
use Rattle.row_probe.proofs.rows.Rows.remainder.Goals.{After-from-count}

pub overflow_sub-rest : goal.overflow_sub-rest
overflow_sub-rest c =
    not-above c.from-number.result c.from-count.result c.self.inside.reciprocal (c.self.invariant.1 ∙ ap (λ z. 4294967296 / z) (sym c.from-count.ensures))

pub returns-then-rest-count-clause-value : goal.returns-then-rest-count-clause-value
returns-then-rest-count-clause-value c =
    rest-is c.from-number.result c.from-count.result c.self.inside.reciprocal (c.self.invariant.1 ∙ ap (λ z. 4294967296 / z) (sym c.from-count.ensures)) c.if-rest-count.true
    ∙ (λ i. c.from-number.ensures i % (c.from-count.ensures ∙ c.self.view_is) i)

pub returns-else-rest-count-clause-value : goal.returns-else-rest-count-clause-value
returns-else-rest-count-clause-value c =
    let some : 0 < c.from-count.result = omega (arith, c.self.invariant.0, c.from-count.ensures) in
    let small : c.from-number.result < 4294967296 = omega (arith, c.from-number.ensures, c.ranges.number) in
    rest-less c.from-number.result c.from-count.result c.self.inside.reciprocal some small (c.self.invariant.1 ∙ ap (λ z. 4294967296 / z) (sym c.from-count.ensures)) c.if-rest-count.false
    ∙ (λ i. c.from-number.ensures i % (c.from-count.ensures ∙ c.self.view_is) i)

pub returns-else-rest-count-clause-within : goal.returns-else-rest-count-clause-within
returns-else-rest-count-clause-within c =
    let some : 0 < c.from-count.result = omega (arith, c.self.invariant.0, c.from-count.ensures) in
    let small : c.from-number.result < 4294967296 = omega (arith, c.from-number.ensures, c.ranges.number) in
    let same : c.from-count.result ≡ c.args.self.now = c.from-count.ensures ∙ c.self.view_is in
    let below : _ < c.from-count.result = rest-below c.from-number.result c.from-count.result c.self.inside.reciprocal some small (c.self.invariant.1 ∙ ap (λ z. 4294967296 / z) (sym c.from-count.ensures)) in
    omega (arith, same, below)
