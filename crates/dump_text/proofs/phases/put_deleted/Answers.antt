use Rattle.dump_text.proofs.PageLemmas.{chain}
use Rattle.dump_text.proofs.phases.put_deleted.Goals as goal

pub returns : goal.returns
returns g c = chain c.put.ensures (chain c.number.ensures (chain c.number-2.ensures (chain c.number-3.ensures (c.end_line.ensures))))
