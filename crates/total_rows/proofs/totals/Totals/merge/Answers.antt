use Rattle.std.proofs.Common.{rules}
use Rattle.total_rows.proofs.SeatLemmas.{joins}
use Rattle.total_rows.proofs.totals.Totals.merge.Goals as goal

pub join_seat-requires : goal.join_seat-requires
join_seat-requires c = (search rules, search rules, search rules, search rules, joins _ _ _ c.args.seat.now.me.0 c.args.other.me.0 c.requires.rests.0 c.requires.rests.1)
