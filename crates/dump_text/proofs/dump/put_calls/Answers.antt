use Rattle.dump_text.proofs.PageLemmas.{chain}
use Rattle.dump_text.proofs.dump.put_calls.Goals as goal

pub returns : goal.returns
returns g c = chain c.put.ensures (chain c.number.ensures (chain c.word.ensures (chain c.number-2.ensures (chain c.word-2.ensures (chain c.number-3.ensures (chain c.word-3.ensures (chain c.number-4.ensures (c.end_line.ensures))))))))
