use Rattle.dump_text.proofs.PageLemmas.{chain}
use Rattle.dump_text.proofs.replies.put_replies.Goals as goal

pub returns : goal.returns
returns g c = chain c.put.ensures (c.put_sections.ensures)
