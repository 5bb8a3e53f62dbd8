use Rattle.std.proofs.Common.{◌≡◌, ◌++◌, take}
use Rattle.std.specs.Prelude.{string_bytes}
use Rattle.std.specs.List.{flat_map}
use Rattle.script_text.specs.Prints.{map_text}
use Rattle.script_text.proofs.print.put_maps.Given as goal

abbrev pub invariant-loop-map : goal.invariant-loop-map
invariant-loop-map l = string_bytes l.out ≡ string_bytes l.initial.out ++ flat_map map_text (take l.map-index l.maps)
