use Rattle.dump_text.proofs.PageLemmas.{chain}
use Rattle.dump_text.proofs.totals.put_ifaces.Goals as goal

pub returns : goal.returns
returns g c = chain c.put.ensures (c.put_totals.ensures)
