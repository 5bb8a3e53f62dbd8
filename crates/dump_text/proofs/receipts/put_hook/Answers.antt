use Rattle.dump_text.proofs.PageLemmas.{chain}
use Rattle.dump_text.proofs.receipts.put_hook.Goals as goal

pub returns : goal.returns
returns g c = chain c.put.ensures (chain c.number.ensures (chain c.put_verdict.ensures (chain c.short_number.ensures (chain c.put_read.ensures (chain c.put_read-2.ensures (chain c.put_read-3.ensures (chain c.put_read-4.ensures (chain c.put_phase.ensures (chain c.put_uid.ensures (chain c.put_tag.ensures (chain c.put_set.ensures (chain c.put_mark.ensures (chain c.put_mark-2.ensures (chain c.put_mark-3.ensures (c.end_line.ensures)))))))))))))))
