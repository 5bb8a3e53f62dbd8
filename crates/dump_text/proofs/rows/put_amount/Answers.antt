use Rattle.dump_text.proofs.PageLemmas.{chain}
use Rattle.dump_text.proofs.rows.put_amount.Goals as goal

pub returns : goal.returns
returns g c = chain c.short_number.ensures (chain c.short_number-2.ensures (chain c.short_number-3.ensures (chain c.short_number-4.ensures (c.end_line.ensures))))
