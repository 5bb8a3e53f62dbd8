use Rattle.dump_text.proofs.PageLemmas.{chain}
use Rattle.dump_text.proofs.page.Page.short_number.Goals as goal

pub returns : goal.returns
returns g c = chain c.put_byte.ensures c.short_digits.ensures
