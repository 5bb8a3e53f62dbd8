use Rattle.dump_text.proofs.PageLemmas.{chain}
use Rattle.dump_text.proofs.phases.put_heading.Goals as goal

pub returns : goal.returns
returns g c = chain c.put.ensures (chain c.number.ensures (c.end_line.ensures))
