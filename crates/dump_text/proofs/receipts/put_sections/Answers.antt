use Rattle.dump_text.specs.Dump.{section_text}
use Rattle.dump_text.proofs.PageLemmas.{puts_item}
use Rattle.dump_text.proofs.receipts.put_sections.Goals as goal

pub loop-section-preserved : goal.loop-section-preserved
loop-section-preserved g c = puts_item section_text c.as_slice-section-items.result.now c.loop-section.section-index c.section-item.result c.loop-section-test.true c.section-item.is c.loop-section.invariant c.put_section.ensures
