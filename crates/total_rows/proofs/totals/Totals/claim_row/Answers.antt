use Rattle.std.proofs.Common.{rules}
use Rattle.total_rows.proofs.Tries.{tries_at}
use Rattle.total_rows.proofs.totals.Totals.claim_row.Goals as goal

pub compare_exchange-requires : goal.compare_exchange-requires
compare_exchange-requires g c = (search rules, search rules, tries_at _ _ _ _ _ _ _ _ c.args.job _ c.args.at.turn _ (search rules) (search rules) (search rules) (search rules) (search rules) (search rules) (search rules) (search rules) (search rules))
