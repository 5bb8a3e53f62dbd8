use Rattle.shelf.proofs.MergeLemmas.{row_has_room, row_amounts, row_merged}
use Rattle.shelf.proofs.merge.add_rows.Goals as goal

pub add_row-requires : goal.add_row-requires
add_row-requires c = record {
  room = row_has_room c.args.sums.now.entries c.loop-row.sums.entries c.args.rows.now c.loop-row.row-index _ c.loop-row-test.true c.loop-row.invariant.amounts c.requires.room;
}

pub loop-row-preserved : goal.loop-row-preserved
loop-row-preserved c =
    let rows = c.args.rows.now in
    let i = c.loop-row.row-index in
    let adds = c.in_ok-add_row.ensures in
    record {
      amounts = row_amounts c.args.sums.now.entries c.loop-row.sums.entries c.add_row.new.sums.entries rows i _ c.loop-row-test.true c.loop-row.invariant.amounts adds;
      merged = λ before h. row_merged c.loop-row.sums.entries c.add_row.new.sums.entries before rows i _ c.loop-row-test.true (c.loop-row.invariant.merged before h) adds;
    }
