use Rattle.std.proofs.Common.{◌≡◌, ◌++◌, take}
use Rattle.std.specs.Prelude.{string_bytes}
use Rattle.std.specs.List.{flat_map}
use Rattle.script_text.specs.Prints.{command_text}
use Rattle.script_text.proofs.print.put_commands.Given as goal

abbrev pub invariant-loop-command : goal.invariant-loop-command
invariant-loop-command l = string_bytes l.out ≡ string_bytes l.initial.out ++ flat_map command_text (take l.command-index l.commands)
