use Rattle.std.proofs.Common.{◌≡◌, ◌<◌, ℕ, ◌∙◌, ◌-◌, ◌+◌, ◌%◌, arith}
use Rattle.std.proofs.Math.Nat.{mod-lt}
use Rattle.row_probe.proofs.Turns.{place-by, first-is}
use Rattle.row_probe.proofs.places.place.Goals as goal

pub returns-then-turn-behind-clause-value : goal.returns-then-turn-behind-clause-value
returns-then-turn-behind-clause-value c =
    let some : 0 < c.args.rows = omega (arith, c.requires) in
    let f : ℕ = c.upper_hash.result % c.args.rows in
    let below : f < c.args.rows = mod-lt c.upper_hash.result some in
    (place-by c.args.k1 c.args.k2 c.args.turn c.args.rows f c.requires (first-is c.args.k1 c.args.k2 c.args.rows c.upper_hash.result some c.upper_hash.ensures)).0
    (omega (arith, c.if-turn-behind.true, below))

pub returns-else-turn-behind-clause-value : goal.returns-else-turn-behind-clause-value
returns-else-turn-behind-clause-value c =
    let some : 0 < c.args.rows = omega (arith, c.requires) in
    let f : ℕ = c.upper_hash.result % c.args.rows in
    let below : f < c.args.rows = mod-lt c.upper_hash.result some in
    let cut : c.args.turn - (c.args.rows - f) ≡ f + c.args.turn - c.args.rows = omega (arith, c.if-turn-behind.false, below) in
    cut ∙ (place-by c.args.k1 c.args.k2 c.args.turn c.args.rows f c.requires (first-is c.args.k1 c.args.k2 c.args.rows c.upper_hash.result some c.upper_hash.ensures)).1
    (omega (arith, c.if-turn-behind.false, below))
