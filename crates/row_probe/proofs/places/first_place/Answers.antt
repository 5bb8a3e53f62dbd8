use Rattle.std.proofs.Common.{◌∙◌, arith}
use Rattle.row_probe.proofs.Turns.{first-is}
use Rattle.row_probe.proofs.places.first_place.Goals as goal

pub returns-clause-value : goal.returns-clause-value
returns-clause-value c =
    c.remainder.ensures.value ∙ first-is c.args.k1 c.args.k2 c.args.rows.now c.upper_hash.result (omega (arith, c.remainder.ensures.within)) c.upper_hash.ensures
