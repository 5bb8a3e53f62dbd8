use Rattle.std.proofs.Common.{◌≡◌, ◌++◌, take}
use Rattle.std.specs.Prelude.{string_bytes}
use Rattle.std.specs.List.{flat_map}
use Rattle.script_text.specs.Prints.{priv_text}
use Rattle.script_text.proofs.print.put_privs.Given as goal

abbrev pub invariant-loop-app : goal.invariant-loop-app
invariant-loop-app l = string_bytes l.out ≡ string_bytes l.initial.out ++ flat_map priv_text (take l.app-index l.apps)
