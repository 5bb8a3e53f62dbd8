use Rattle.std.proofs.Common.{rules}
use Rattle.total_rows.proofs.Keeps.{adds_bytes_at}
use Rattle.total_rows.proofs.totals.Totals.add_bytes.Goals as goal

pub fetch_add-requires : goal.fetch_add-requires
fetch_add-requires g c = (search rules, search rules, adds_bytes_at _ _ _ _ _ _ c.args.at.row _ c.args.job _ c.args.at.turn (search rules) (search rules) (search rules) (search rules) (search rules) (search rules))
