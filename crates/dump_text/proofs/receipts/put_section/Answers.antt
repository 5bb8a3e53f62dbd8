use Rattle.dump_text.specs.Dump.{receipt_text}
use Rattle.std.specs.List.{flat_map}
use Rattle.dump_text.proofs.PageLemmas.{puts_item}
use Rattle.dump_text.proofs.receipts.put_section.Goals as goal

pub loop-lane-preserved : goal.loop-lane-preserved
loop-lane-preserved g c = puts_item (flat_map receipt_text) c.as_slice-lane-items.result.now c.loop-lane.lane-index c.lane-item.result c.loop-lane-test.true c.lane-item.is c.loop-lane.invariant c.put_lane.ensures
