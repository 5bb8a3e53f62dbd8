-- In which order the lines of a script stand.
use Rattle.std.specs.Prelude.{◌≡◌, ℕ, not, Bool, true, false, nat_lt, bytes_eq, List, [], ◌∷◌, ◌++◌}
use Rattle.std.specs.List.{list_any}
use Rattle.script_text.specs.declared.map_name.MapName.{MapName}
use Rattle.script_text.specs.declared.line.Line.{Line}
use Rattle.script_text.specs.declared.place.Place.{Place}
use Rattle.script_text.specs.declared.map_name.MapName.TheVariants as maps
use Rattle.script_text.specs.declared.line.Line.TheVariants as lines
use Rattle.script_text.specs.declared.place.Place.TheVariants as places

-- The place behind a line.
abbrev pub place_of : Line → Place
place_of lines.Version = places.Version
place_of (lines.Map name n) = places.Map name
place_of (lines.Priv app) = places.Priv app
place_of (lines.If iface name) = places.If iface
place_of lines.Section = places.Section
place_of (lines.Cap bytes) = places.Section
place_of lines.Lane = places.Lane
place_of (lines.Hook h) = places.Lane
place_of lines.Desk = places.Desk
place_of (lines.Command c) = places.Desk

-- The place behind lines.
abbrev pub place_behind : Place → List Line → Place
place_behind p [] = p
place_behind p (l ∷ ls) = place_behind (place_of l) ls

abbrev pub map_rank : MapName → ℕ
map_rank maps.Rows = 0
map_rank maps.Cookies = 1
map_rank maps.Sets = 2
map_rank maps.Owners = 3
map_rank maps.Writes = 4
map_rank maps.Apps = 5
map_rank maps.Ifaces = 6

abbrev pub takes_map : Place → MapName → Bool
takes_map places.Version name = true
takes_map (places.Map last) name = nat_lt (map_rank last) (map_rank name)
takes_map p name = false

abbrev pub takes_priv : Place → ℕ → Bool
takes_priv places.Version app = true
takes_priv (places.Map last) app = true
takes_priv (places.Priv last) app = nat_lt last app
takes_priv p app = false

abbrev pub takes_if : Place → ℕ → Bool
takes_if places.Version iface = true
takes_if (places.Map last) iface = true
takes_if (places.Priv last) iface = true
takes_if (places.If last) iface = nat_lt last iface
takes_if p iface = false

abbrev pub is_start : Place → Bool
is_start places.Start = true
is_start p = false

abbrev pub is_next : Place → Bool
is_next places.Next = true
is_next p = false

abbrev pub is_section : Place → Bool
is_section places.Section = true
is_section p = false

abbrev pub is_lane : Place → Bool
is_lane places.Lane = true
is_lane p = false

abbrev pub is_desk : Place → Bool
is_desk places.Desk = true
is_desk p = false

-- Before the desk: behind the line `section`, a `cap` line, or a lane's lines.
abbrev pub is_open : Place → Bool
is_open places.Section = true
is_open places.Lane = true
is_open p = false

-- Inside a section: behind its first line, a `cap` line, or a line of its lanes or of its desk.
abbrev pub is_inside : Place → Bool
is_inside places.Section = true
is_inside places.Lane = true
is_inside places.Desk = true
is_inside p = false

-- Whether a line may stand at a place.
abbrev pub follows : Place → Line → Bool
follows p lines.Version = is_start p
follows p (lines.Map name n) = takes_map p name
follows p (lines.Priv app) = takes_priv p app
follows p (lines.If iface name) = takes_if p iface
follows p lines.Section = is_next p
follows p (lines.Cap bytes) = is_section p
follows p lines.Lane = is_open p
follows p (lines.Hook h) = is_lane p
follows p lines.Desk = is_open p
follows p (lines.Command c) = is_desk p

-- The names that lines give.
abbrev pub names_in : List Line → List (List ℕ)
names_in [] = []
names_in (lines.If iface name ∷ ls) = name ∷ names_in ls
names_in (l ∷ ls) = names_in ls

-- The line gives none of these names.
abbrev pub is_fresh : List (List ℕ) → Line → Bool
is_fresh names (lines.If iface name) = not (list_any (λ n. bytes_eq n name) names)
is_fresh names l = true

-- A line may stand at a place, behind lines that give these names.
pub record Stands (place : Place) (names : List (List ℕ)) (l : Line) : Type 0 where
  pub follows_is : follows place l ≡ true
  pub fresh_is : is_fresh names l ≡ true

-- A line may stand behind these, the first lines of a part.
abbrev pub MayStand : Place → List Line → Line → Type 0
MayStand from front l = Stands (place_behind from front) (names_in front) l

-- Each of the lines may stand behind those before it.
abbrev pub InOrder : Place → List Line → List Line → Type 0
InOrder from front [] = Unit {0}
InOrder from front (l ∷ ls) = MayStand from front l × InOrder from (front ++ l ∷ []) ls
