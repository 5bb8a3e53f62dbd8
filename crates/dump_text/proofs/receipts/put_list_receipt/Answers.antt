use Rattle.dump_text.proofs.PageLemmas.{chain}
use Rattle.dump_text.proofs.receipts.put_list_receipt.Goals as goal

pub returns : goal.returns
returns g c = chain c.put.ensures (chain c.number.ensures (chain c.put_match.ensures (chain c.short_number.ensures (chain c.put_read.ensures (c.end_line.ensures)))))
