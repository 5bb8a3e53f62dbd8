use Rattle.std.proofs.Common.{◌≡◌, take}
use Rattle.std.specs.List.{flat_map}
use Rattle.shelf.specs.Counted.{counts_of}
use Rattle.dump_text.proofs.counts.section_counts.Given as goal

abbrev pub invariant-loop-lane : goal.invariant-loop-lane
invariant-loop-lane l = l.sum ≡ counts_of (flat_map (λ lane. lane) (take l.lane-index l.lane-items))
