use Rattle.dump_text.specs.Dump.{reply_text}
use Rattle.dump_text.proofs.PageLemmas.{puts_more}
use Rattle.dump_text.proofs.replies.put_section.Goals as goal

pub loop-reply-preserved : goal.loop-reply-preserved
loop-reply-preserved g c = puts_more reply_text c.as_slice-reply-items.result.now c.loop-reply.reply-index _ c.loop-reply-test.true c.loop-reply.invariant c.put_reply.ensures
