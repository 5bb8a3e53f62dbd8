use Rattle.std.proofs.Common.{rules}
use Rattle.total_rows.proofs.Tries.{peeks_at}
use Rattle.total_rows.proofs.totals.Totals.peek_at_row.Goals as goal

pub load-requires : goal.load-requires
load-requires g c = (search rules, search rules, peeks_at _ _ _ _ _ _ _ c.args.job _ c.args.at.turn _ (search rules) (search rules) (search rules) (search rules) (search rules) (search rules) (search rules) (search rules))
