use Rattle.dump_text.proofs.PageLemmas.{chain}
use Rattle.dump_text.proofs.receipts.put_pair.Goals as goal

pub returns : goal.returns
returns g c = chain c.short_digits.ensures (chain c.put_byte.ensures (c.short_digits-2.ensures))
