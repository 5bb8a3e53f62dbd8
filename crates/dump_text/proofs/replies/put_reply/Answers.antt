use Rattle.dump_text.proofs.PageLemmas.{chain}
use Rattle.dump_text.proofs.replies.put_reply.Goals as goal

pub returns : goal.returns
returns g c = chain c.put.ensures (chain c.number.ensures (chain c.put_reply_word.ensures (c.end_line.ensures)))
