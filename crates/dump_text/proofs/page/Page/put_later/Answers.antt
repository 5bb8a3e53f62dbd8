use Rattle.dump_text.proofs.PageLemmas.{chain}
use Rattle.dump_text.proofs.page.Page.put_later.Goals as goal

pub returns : goal.returns
returns g c = chain c.flush.ensures.puts c.put_alone.ensures
