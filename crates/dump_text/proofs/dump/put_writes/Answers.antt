use Rattle.dump_text.proofs.PageLemmas.{chain}
use Rattle.dump_text.proofs.dump.put_writes.Goals as goal

pub returns : goal.returns
returns g c = chain c.put.ensures (chain c.number.ensures (chain c.word.ensures (chain c.number-2.ensures (c.end_line.ensures))))
