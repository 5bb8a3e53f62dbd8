use Rattle.std.proofs.Common.{◌≡◌, ◌++◌, take}
use Rattle.std.specs.Prelude.{string_bytes}
use Rattle.std.specs.List.{flat_map}
use Rattle.script_text.specs.Prints.{uid_text}
use Rattle.script_text.proofs.spell.put_uids.Given as goal

abbrev pub invariant-loop-uid : goal.invariant-loop-uid
invariant-loop-uid l = string_bytes l.out ≡ string_bytes l.initial.out ++ flat_map uid_text (take l.uid-index l.uids)
