use Rattle.dump_text.proofs.PageLemmas.{chain}
use Rattle.dump_text.proofs.totals.put_total.Goals as goal

pub returns : goal.returns
returns g c = chain c.put.ensures (chain c.put_iface.ensures (c.put_amount.ensures))
