use Rattle.dump_text.proofs.PageLemmas.{chain}
use Rattle.dump_text.proofs.page.Page.number.Goals as goal

pub returns : goal.returns
returns g c = chain c.put.ensures c.digits.ensures
