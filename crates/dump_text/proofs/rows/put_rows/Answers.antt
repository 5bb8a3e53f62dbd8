use Rattle.dump_text.specs.Dump.{row_text}
use Rattle.dump_text.proofs.PageLemmas.{puts_more}
use Rattle.dump_text.proofs.rows.put_rows.Goals as goal

pub loop-row-preserved : goal.loop-row-preserved
loop-row-preserved g c = puts_more (row_text c.args.names.now) c.args.rows.now c.loop-row.row-index _ c.loop-row-test.true c.loop-row.invariant c.put_row.ensures
