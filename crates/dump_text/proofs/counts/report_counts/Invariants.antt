use Rattle.std.proofs.Common.{◌≡◌, take}
use Rattle.std.specs.List.{flat_map}
use Rattle.shelf.specs.Counted.{counts_of}
use Rattle.dump_text.specs.Dump.{section_receipts}
use Rattle.dump_text.proofs.counts.report_counts.Given as goal

abbrev pub invariant-loop-section : goal.invariant-loop-section
invariant-loop-section l = l.sum ≡ counts_of (flat_map section_receipts (take l.section-index l.section-items))
