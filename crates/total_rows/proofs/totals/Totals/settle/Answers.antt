use Rattle.std.proofs.Common.{rules}
use Rattle.total_rows.proofs.Lookups.{settles_at}
use Rattle.total_rows.proofs.totals.Totals.settle.Goals as goal

pub load-requires : goal.load-requires
load-requires g c = (search rules, search rules, settles_at _ _ _ _ _ _ c.requires.rests (search rules))
