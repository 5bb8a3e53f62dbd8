-- Lines one after another, for the contracts of the printer's parts.
use Rattle.std.specs.Prelude.{ℕ, List, [], ◌∷◌, ◌++◌, Option, Some, None, codes, decimal}
use Rattle.std.specs.List.{flat_map}
use Rattle.desk_core.specs.declared.command.Command.{Command}
use Rattle.script_text.specs.declared.map_name.MapName.{MapName}
use Rattle.script_text.specs.declared.line.Line.TheVariants as lines
use Rattle.script_text.specs.Lines.{spelled, LaneLine}
use Rattle.script_text.specs.Parts.{lines_text, lane_lines}

-- A uid of a `replace` line, behind its space.
abbrev pub uid_text : ℕ → List ℕ
uid_text uid = 32 ∷ decimal uid

abbrev pub map_text : MapName × ℕ → List ℕ
map_text m = spelled (lines.Map m.0 m.1)

abbrev pub priv_text : ℕ → List ℕ
priv_text app = spelled (lines.Priv app)

abbrev pub name_text : ℕ × List ℕ → List ℕ
name_text n = spelled (lines.If n.0 n.1)

abbrev pub hook_text : ℕ × LaneLine → List ℕ
hook_text h = spelled (lines.Hook h.1)

abbrev pub command_text : ℕ × Command → List ℕ
command_text c = spelled (lines.Command c.1)

abbrev pub lane_text : List (ℕ × LaneLine) → List ℕ
lane_text lane = lines_text (lane_lines lane)

abbrev pub desk_text : Option (List (ℕ × Command)) → List ℕ
desk_text None = []
desk_text (Some commands) = codes "desk\n" ++ flat_map command_text commands
