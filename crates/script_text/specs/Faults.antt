-- Which line decides on a part of a text, and by which fault.
use Rattle.std.specs.Prelude.{◌≡◌, ◌⊎◌, ℕ, ◌+◌, ◌<◌, List, [], ◌++◌, length, codes, Some, None}
use Rattle.std.specs.List.{AllByRecursion}
use Rattle.script_text.specs.declared.line.Line.{Line}
use Rattle.script_text.specs.declared.place.Place.{Place}
use Rattle.script_text.specs.declared.limits.Tally.{Tally}
use Rattle.script_text.specs.declared.fault.Which.{Which}
use Rattle.script_text.specs.Lines.{IsLine, spelled}
use Rattle.script_text.specs.Order.{place_behind, names_in, Stands, InOrder}
use Rattle.script_text.specs.Parts.{lines_text}
use Rattle.script_text.specs.Limits.{passed_by_bytes, added, tallied, passed, KeepLimits}

-- The bytes begin with a line `section`.
abbrev pub BeginsSection : List ℕ → Type 0
BeginsSection bytes = (more : List ℕ) × (bytes ≡ codes "section\n" ++ more)

-- Nothing is left, or a section begins.
abbrev pub IsNextPart : List ℕ → Type 0
IsNextPart rest = (rest ≡ []) ⊎ BeginsSection rest

-- The bytes are this text, up to where a section begins or they end.
abbrev pub IsPart : List ℕ → List ℕ → Type 0
IsPart text bytes = (rest : List ℕ) × (bytes ≡ text ++ rest) × IsNextPart rest

-- No line that may stand at this place stands at the front of the rest: with the next line the text is no script any
-- more.
pub record SyntaxAt (place : Place) (names : List (List ℕ)) (t : Tally) (rest : List ℕ) : Type 0 where
  pub bytes_fit : passed_by_bytes t rest ≡ None
  pub none : (l : Line) (more : List ℕ) → IsLine l → Stands place names l → rest ≡ spelled l ++ more → ⊥

-- The next line may stand there.
pub record IsNext (place : Place) (names : List (List ℕ)) (t : Tally) (rest : List ℕ) (line : Line) (more : List ℕ) : Type 0 where
  pub bytes_fit : passed_by_bytes t rest ≡ None
  pub fits : IsLine line
  pub stands : Stands place names line
  pub text : rest ≡ spelled line ++ more

-- The next line passes this limit, and none that stands before it in their order. A limit on bytes it may pass
-- whatever it says.
abbrev pub LimitAt : Which → Place → List (List ℕ) → Tally → List ℕ → Type 0
LimitAt w place names t rest =
    (passed_by_bytes t rest ≡ Some w) ⊎ ((line : Line) × (more : List ℕ) × IsNext place names t rest line more × (passed (added t line) line ≡ Some w))

-- The line that decides on a part of a text, which begins with line `first`: the lines before it may stand so and pass
-- no limit, the part goes on, and there the next line fails.
pub record FailsAt (start : Place) (t : Tally) (bytes : List ℕ) (first line : ℕ) (Fails : Place → List (List ℕ) → Tally → List ℕ → Type 0) : Type 0 where
  pub front : List Line
  pub rest : List ℕ
  pub fits : AllByRecursion IsLine front
  pub order : InOrder start [] front
  pub limits : KeepLimits t front
  pub read : bytes ≡ lines_text front ++ rest
  pub goes_on : 0 < length front → IsNextPart rest → ⊥
  pub number : line ≡ first + length front
  pub fails : Fails (place_behind start front) (names_in front) (tallied t front) rest
