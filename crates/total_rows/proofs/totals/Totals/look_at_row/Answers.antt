use Rattle.std.proofs.Common.{rules}
use Rattle.total_rows.proofs.Lookups.{looks_at}
use Rattle.total_rows.proofs.totals.Totals.look_at_row.Goals as goal

pub load-requires : goal.load-requires
load-requires g c = (search rules, search rules, looks_at _ _ _ _ _ _ _ c.args.key _ c.args.at.turn _ (search rules) (search rules) (search rules) (search rules) (search rules) (search rules) (search rules))
