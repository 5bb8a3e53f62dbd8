use Rattle.std.proofs.Common.{sym}
use Rattle.std.specs.Mem.Slots.{slots_items}
use Rattle.total_rows.proofs.Spots.{read_at}
use Rattle.total_rows.proofs.closing.word_at.Goals as goal

pub returns : goal.returns
returns c = sym (read_at (slots_items c.args.closed.now.words) c.args.i c.word.result 0 c.word.ensures).1
