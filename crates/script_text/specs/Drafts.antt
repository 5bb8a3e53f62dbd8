-- A part as far as it was read, for the contracts of the parser's parts.
use Rattle.std.specs.Prelude.{true, ◌≡◌, ◌≢◌, ℕ, ◌+◌, ◌<◌, List, [], ◌∷◌, ◌++◌, length, map, Option, Some, None, IsSome, IsSomeAnd}
use Rattle.std.specs.List.{AllByRecursion, flat_map}
use Rattle.script_text.specs.declared.line.Line.{Line}
use Rattle.script_text.specs.declared.line.Line.TheVariants as lines
use Rattle.script_text.specs.declared.place.Place.{Place}
use Rattle.script_text.specs.declared.place.Place.TheVariants as places
use Rattle.script_text.specs.declared.place.Place.TheVariants.{Next}
use Rattle.script_text.specs.declared.limits.Tally.{Tally}
use Rattle.script_text.specs.declared.header.Header.{Header}
use Rattle.script_text.specs.declared.section.Section.{Section}
use Rattle.script_text.specs.declared.draft.Draft.{Draft}
use Rattle.script_text.specs.declared.reader.Reader.{Reader}
use Rattle.script_text.specs.Lines.{IsLine, spelled, LaneLine}
use Rattle.script_text.specs.Lanes.{ComesNext}
use Rattle.script_text.specs.Order.{InOrder, names_in, place_behind, is_inside}
use Rattle.script_text.specs.Parts.{cap_lines, lines_text, lane_lines, desk_lines, desk_numbers, line_numbers, given_numbers, section_lines, sum_of}
use Rattle.script_text.specs.Faults.{IsNext}
use Rattle.script_text.specs.Counted.{NeedsCapture}
use Rattle.script_text.specs.Limits.{passed, added, tallied, IsSmall, KeepLimits}

-- No line stands at the front of the text.
abbrev pub BeginsWithNoLine : List ℕ → Type 0
BeginsWithNoLine text = (l : Line) (more : List ℕ) → IsLine l → text ≢ spelled l ++ more

-- The next line was taken, and passes no limit.
pub record Takes (place : Place) (names : List (List ℕ)) (t : Tally) (rest : List ℕ) (line : Line) (new : Tally) (more : List ℕ) : Type 0 where
  pub next : IsNext place names t rest line more
  pub tally_is : new ≡ added t line
  pub kept : passed new line ≡ None
  pub small : IsSmall new

abbrev pub second_of : List (ℕ × List ℕ) → List (List ℕ)
second_of names = map (λ (n : ℕ × List ℕ). n.1) names

-- ---- a header as far as it was read

-- A header whose last line left this place: the lists that come later are empty.
abbrev pub HeaderAt : Place → Header → Type 0
HeaderAt places.Version h = (h.maps ≡ []) × ((h.privileged ≡ []) × (h.names ≡ []))
HeaderAt (places.Map last) h = (h.privileged ≡ []) × (h.names ≡ [])
HeaderAt (places.Priv last) h = h.names ≡ []
HeaderAt (places.If last) h = Unit {0}
HeaderAt _ h = ⊥

-- The header may take the line.
abbrev pub HeaderTakes : Header → Line → Type 0
HeaderTakes h (lines.Map name n) = (h.privileged ≡ []) × (h.names ≡ [])
HeaderTakes h (lines.Priv app) = h.names ≡ []
HeaderTakes h (lines.If iface name) = Unit {0}
HeaderTakes h _ = ⊥

-- ---- a section as far as it was read

-- The lines of the lane under way.
abbrev pub lane_part : Option (List (ℕ × LaneLine)) → List Line
lane_part None = []
lane_part (Some hooks) = lane_lines hooks

-- The lines that were read.
abbrev pub draft_lines : Draft → List Line
draft_lines d = lines.Section ∷ (cap_lines d.caps d.capture.items ++ (flat_map lane_lines d.lanes ++ (lane_part d.lane ++ desk_lines d.desk)))

abbrev pub numbers_of : List (ℕ × LaneLine) → List ℕ
numbers_of lane = map (λ (h : ℕ × LaneLine). h.0) lane

abbrev pub lane_numbers : Option (List (ℕ × LaneLine)) → List ℕ
lane_numbers None = []
lane_numbers (Some lane) = numbers_of lane

-- The numbers that hook lines and desk lines were given.
abbrev pub draft_numbers : Draft → List ℕ
draft_numbers d = flat_map numbers_of d.lanes ++ (lane_numbers d.lane ++ desk_numbers d.desk)

pub record IsDraft (d : Draft) : Type 0 where
  pub captured : sum_of d.caps ≡ length d.capture.items
  pub numbered : draft_numbers d ≡ line_numbers d.first (draft_lines d)

-- The section has no lane and no desk yet.
pub record IsBare (d : Draft) : Type 0 where
  pub no_lanes : d.lanes ≡ []
  pub no_lane : d.lane ≡ None
  pub no_desk : d.desk ≡ None

-- A section whose last line left this place, and whose next line has this number.
abbrev pub DraftAt : Place → ℕ → Draft → Type 0
DraftAt places.Section number d = IsBare d
DraftAt places.Lane number d = (d.desk ≡ None) × IsSomeAnd d.lane (λ lane. ComesNext lane number)
DraftAt places.Desk number d = IsSome d.desk
DraftAt _ number d = ⊥

-- The section may take the line, which has this number.
abbrev pub DraftTakes : Draft → ℕ → Line → Type 0
DraftTakes d number (lines.Cap bytes) = IsBare d
DraftTakes d number lines.Lane = d.desk ≡ None
DraftTakes d number (lines.Hook h) = (d.desk ≡ None) × IsSomeAnd d.lane (λ lane. ComesNext lane number)
DraftTakes d number lines.Desk = d.desk ≡ None
DraftTakes d number (lines.Command c) = IsSome d.desk
DraftTakes d number _ = ⊥

-- What a section that was read is beside the range and the order of its lines.
pub record IsWhole (s : Section) : Type 0 where
  pub captured : sum_of s.caps ≡ length s.capture
  pub numbered : given_numbers s ≡ line_numbers s.first (section_lines s)

-- ---- a part as far as it was read

-- These lines of a part were read, which leave this place, these names, this tally and this rest.
pub record IsRead (from : Place) (t : Tally) (bytes : List ℕ) (ls : List Line) (place : Place) (names : List (List ℕ)) (with : Tally) (rest : List ℕ) : Type 0 where
  pub fits : AllByRecursion IsLine ls
  pub order : InOrder from [] ls
  pub limits : KeepLimits t ls
  pub place_is : place ≡ place_behind from ls
  pub names_are : names ≡ names_in ls
  pub tally_is : with ≡ tallied t ls
  pub read : bytes ≡ lines_text ls ++ rest

-- The cursor stands behind these lines of a part.
pub record IsReadTo (from : Place) (t : Tally) (first : ℕ) (bytes : List ℕ) (ls : List Line) (names : List (List ℕ)) (r : Reader) : Type 0 where
  pub read : IsRead from t bytes ls r.place names r.tally r.rest.now
  pub number : r.number ≡ first + length ls
  pub small : IsSmall r.tally

-- ---- a section that is not kept

-- The cursor stands behind the first lines of a section, none of which has to do with a capture.
pub record IsPassed (t : Tally) (first : ℕ) (bytes : List ℕ) (r : Reader) : Type 0 where
  pub front : List Line
  pub read : IsReadTo Next t first bytes front [] r
  pub some : 0 < length front
  pub inside : is_inside r.place ≡ true
  pub free : AllByRecursion (λ l. NeedsCapture l → ⊥) front
