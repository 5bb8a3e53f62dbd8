use Rattle.std.proofs.Common.{take}
use Rattle.shelf.specs.Phases.{snapshot_rows}
use Rattle.shelf.specs.Merged.{IsMerged}
use Rattle.shelf.proofs.shelf.Shelf.merged.Given as goal

abbrev pub invariant-loop-snapshot : goal.invariant-loop-snapshot
invariant-loop-snapshot l = IsMerged l.sums.entries (snapshot_rows (take l.snapshot-index l.snapshot-items))
