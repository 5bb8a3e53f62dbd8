use Rattle.dump_text.proofs.PageLemmas.{chain}
use Rattle.dump_text.proofs.rows.put_row.Goals as goal

pub returns : goal.returns
returns g c = chain c.put.ensures (chain c.number.ensures (chain c.short_number.ensures (chain c.short_number-2.ensures (chain c.put_iface.ensures (c.put_amount.ensures)))))
