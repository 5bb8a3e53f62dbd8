use Rattle.std.proofs.Common.{rules}
use Rattle.total_rows.proofs.Keeps.{adds_packets_at}
use Rattle.total_rows.proofs.totals.Totals.add_packets.Goals as goal

pub fetch_add-requires : goal.fetch_add-requires
fetch_add-requires g c = (search rules, search rules, adds_packets_at _ _ _ _ _ _ c.args.at.row c.args.job _ c.args.at.turn _ (search rules) (search rules) (search rules) (search rules) (search rules) (search rules))
