-- The parts of a script, a header and sections: of which lines they are made.
use Rattle.std.specs.Prelude.{◌≡◌, ℕ, ◌+◌, List, [], ◌∷◌, ◌++◌, length, map, take, drop, Option, Some, None}
use Rattle.std.specs.List.{flat_map, AllByRecursion}
use Rattle.acct_base.specs.declared.sizes.Sizes.{Sizes}
use Rattle.desk_core.specs.declared.command.Command.{Command}
use Rattle.script_text.specs.declared.map_name.MapName.{MapName}
use Rattle.script_text.specs.declared.line.Line.{Line}
use Rattle.script_text.specs.declared.header.Header.{Header}
use Rattle.script_text.specs.declared.section.Section.{Section}
use Rattle.script_text.specs.Lines.{IsLine, spelled, LaneLine}
use Rattle.script_text.specs.Order.{InOrder}
use Rattle.script_text.specs.declared.map_name.MapName.TheVariants as maps
use Rattle.script_text.specs.declared.line.Line.TheVariants as lines
use Rattle.script_text.specs.declared.place.Place.TheVariants as places

-- The text of lines, one after another.
abbrev pub lines_text : List Line → List ℕ
lines_text ls = flat_map spelled ls

abbrev pub header_lines : Header → List Line
header_lines h =
    lines.Version ∷ (map (λ (m : MapName × ℕ). lines.Map m.0 m.1) h.maps ++ (map (λ app. lines.Priv app) h.privileged ++ map (λ (n : ℕ × List ℕ). lines.If n.0 n.1) h.names))

abbrev pub header_text : Header → List ℕ
header_text h = lines_text (header_lines h)

-- The sizes of the tables where a script gives no others.
abbrev pub default_sizes : Sizes
default_sizes = record {
  rows = 5000;
  regs = record { cookies = 10000; sets = 2000; owners = 2000; writes = 262144 };
  apps = 10000;
  ifaces = 1000;
  calls = 1048576;
}

abbrev pub with_size : Sizes → MapName → ℕ → Sizes
with_size s maps.Rows n = record s { rows = n }
with_size s maps.Cookies n = record s { regs = record s.regs { cookies = n } }
with_size s maps.Sets n = record s { regs = record s.regs { sets = n } }
with_size s maps.Owners n = record s { regs = record s.regs { owners = n } }
with_size s maps.Writes n = record s { regs = record s.regs { writes = n } }
with_size s maps.Apps n = record s { apps = n }
with_size s maps.Ifaces n = record s { ifaces = n }

abbrev pub with_sizes : Sizes → List (MapName × ℕ) → Sizes
with_sizes s [] = s
with_sizes s (m ∷ ms) = with_sizes (with_size s m.0 m.1) ms

-- What a header may be: its lines are in range and in order, and its sizes are the defaults with those of its lines.
pub record IsHeader (h : Header) : Type 0 where
  pub fits : AllByRecursion IsLine (header_lines h)
  pub order : InOrder places.Start [] (header_lines h)
  pub sizes_are : h.sizes ≡ with_sizes default_sizes h.maps

-- A line for so many bytes of the capture each.
abbrev pub cap_lines : List ℕ → List ℕ → List Line
cap_lines [] bytes = []
cap_lines (n ∷ ns) bytes = lines.Cap (take n bytes) ∷ cap_lines ns (drop n bytes)

abbrev pub lane_lines : List (ℕ × LaneLine) → List Line
lane_lines hooks = lines.Lane ∷ map (λ (h : ℕ × LaneLine). lines.Hook h.1) hooks

abbrev pub desk_lines : Option (List (ℕ × Command)) → List Line
desk_lines None = []
desk_lines (Some commands) = lines.Desk ∷ map (λ (c : ℕ × Command). lines.Command c.1) commands

abbrev pub section_lines : Section → List Line
section_lines s = lines.Section ∷ (cap_lines s.caps s.capture ++ (flat_map lane_lines s.lanes ++ desk_lines s.desk))

abbrev pub section_text : Section → List ℕ
section_text s = lines_text (section_lines s)

-- The numbers that hook lines and desk lines have, where the first of the lines is line n.
abbrev pub line_numbers : ℕ → List Line → List ℕ
line_numbers n [] = []
line_numbers n (lines.Hook h ∷ ls) = n ∷ line_numbers (n + 1) ls
line_numbers n (lines.Command c ∷ ls) = n ∷ line_numbers (n + 1) ls
line_numbers n (l ∷ ls) = line_numbers (n + 1) ls

abbrev pub desk_numbers : Option (List (ℕ × Command)) → List ℕ
desk_numbers None = []
desk_numbers (Some commands) = map (λ (c : ℕ × Command). c.0) commands

-- The numbers that a section gives its hook lines and desk lines.
abbrev pub given_numbers : Section → List ℕ
given_numbers s = flat_map (λ lane. map (λ (h : ℕ × LaneLine). h.0) lane) s.lanes ++ desk_numbers s.desk

abbrev pub sum_of : List ℕ → ℕ
sum_of [] = 0
sum_of (n ∷ ns) = n + sum_of ns

-- What a section may be: its lines are in range and in order, its capture is that of its `cap` lines, and its
-- hook lines and desk lines have their numbers.
pub record IsSection (s : Section) : Type 0 where
  pub fits : AllByRecursion IsLine (section_lines s)
  pub order : InOrder places.Next [] (section_lines s)
  pub captured : sum_of s.caps ≡ length s.capture
  pub numbered : given_numbers s ≡ line_numbers s.first (section_lines s)
