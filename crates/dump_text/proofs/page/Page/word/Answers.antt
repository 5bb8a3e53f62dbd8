use Rattle.dump_text.proofs.PageLemmas.{chain}
use Rattle.dump_text.proofs.page.Page.word.Goals as goal

pub returns : goal.returns
returns g c = chain c.put.ensures c.put-2.ensures
