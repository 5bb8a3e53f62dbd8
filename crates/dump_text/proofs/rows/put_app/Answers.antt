use Rattle.dump_text.proofs.PageLemmas.{chain}
use Rattle.dump_text.proofs.rows.put_app.Goals as goal

pub returns : goal.returns
returns g c = chain c.put.ensures (chain c.number.ensures (c.put_amount.ensures))
