use Rattle.std.proofs.Common.{rules}
use Rattle.total_rows.proofs.SeatLemmas.{splits_at}
use Rattle.total_rows.proofs.totals.Totals.cut.Goals as goal

pub split_seat-requires : goal.split_seat-requires
split_seat-requires g c = (search rules, search rules, splits_at _ _ _ _ c.args.seat.now.me.0 c.requires.rests.0 c.requires.calls c.requires.about)
