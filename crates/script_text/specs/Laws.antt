-- Laws which show that the definitions mean what they say.
use Rattle.std.specs.Prelude.{◌≡◌, ◌⊎◌, ℕ, ◌<◌, List, [], ◌∷◌, ◌++◌, length, take}
use Rattle.std.specs.List.{AllByRecursion}
use Rattle.script_text.specs.declared.line.Line.{Line}
use Rattle.script_text.specs.declared.place.Place.{Place}
use Rattle.script_text.specs.declared.limits.Tally.{Tally}
use Rattle.script_text.specs.declared.fault.Which.{Which}
use Rattle.script_text.specs.declared.header.Header.{Header}
use Rattle.script_text.specs.declared.section.Section.{Section}
use Rattle.script_text.specs.declared.cutter.Fed.{Fed}
use Rattle.script_text.specs.declared.cutter.Fed.TheVariants as fed
use Rattle.script_text.specs.Lines.{IsLine}
use Rattle.script_text.specs.Order.{InOrder}
use Rattle.script_text.specs.Parts.{lines_text, header_text, section_text}
use Rattle.script_text.specs.Limits.{counts_after}
use Rattle.script_text.specs.Faults.{IsNextPart, IsPart, BeginsSection, FailsAt, SyntaxAt, LimitAt}
use Rattle.script_text.specs.Script.{IsScript, IsNextSection, script_text, script_counts}
use Rattle.script_text.specs.Cuts.{EndsLine, IsUncut, ArePartsOf, Feeds}

-- The bytes are these lines of a part, up to where the next part begins.
pub record AreLinesOf (from : Place) (ls : List Line) (bytes rest : List ℕ) : Type 0 where
  pub some : 0 < length ls
  pub fits : AllByRecursion IsLine ls
  pub order : InOrder from [] ls
  pub text : bytes ≡ lines_text ls ++ rest
  pub next : IsNextPart rest

-- A part has one reading, and it ends in one place.
abbrev pub PartIsReadOnce : Type 0
PartIsReadOnce = (from : Place) (ls ms : List Line) (bytes rest other : List ℕ) → AreLinesOf from ls bytes rest → AreLinesOf from ms bytes other → (ls ≡ ms) × (rest ≡ other)

-- Where a line takes a text out of the grammar, no part stands.
abbrev pub SyntaxDecides : Type 0
SyntaxDecides = (from : Place) (t : Tally) (bytes other : List ℕ) (first line : ℕ) (ms : List Line) → FailsAt from t bytes first line SyntaxAt → AreLinesOf from ms bytes other → ⊥

-- ---- the parts of a text

-- The parts that were given and the bytes that are held are the parts of what was fed.
abbrev pub FedOn : List (List ℕ) → List ℕ → List ℕ → Fed → List ℕ → Type 0
FedOn parts text piece fed.More new = ArePartsOf parts new (text ++ piece)
FedOn parts text piece (fed.Part taken part) new = ArePartsOf (parts ++ part ∷ []) new (text ++ take taken piece)

-- However a text is fed in pieces, what a cutter gives and holds are its parts.
abbrev pub CutterGivesParts : Type 0
CutterGivesParts = (parts : List (List ℕ)) (old piece text new : List ℕ) (fed : Fed) → ArePartsOf parts old text → Feeds old piece fed new → FedOn parts text piece fed new

-- A text has its parts in one way alone.
abbrev pub PartsAreOnce : Type 0
PartsAreOnce = (ps qs : List (List ℕ)) (a b text : List ℕ) → ArePartsOf ps a text → ArePartsOf qs b text → (ps ≡ qs) × (a ≡ b)

-- ---- a script part by part

-- A section behind a script makes a longer one.
abbrev pub ScriptGrows : Type 0
ScriptGrows = (h : Header) (ss : List Section) (s : Section) → IsScript h ss → IsNextSection (script_counts h ss) s
    → IsScript h (ss ++ s ∷ []) × ((script_text h (ss ++ s ∷ []) ≡ script_text h ss ++ section_text s) × (script_counts h (ss ++ s ∷ []) ≡ counts_after (script_counts h ss) s))

-- A header, or a section, that was read from a part of a text is the whole part.
abbrev pub HeaderIsWhole : Type 0
HeaderIsWhole = (h : Header) (part : List ℕ) → IsUncut part → IsPart (header_text h) part → part ≡ header_text h

abbrev pub SectionIsWhole : Type 0
SectionIsWhole = (s : Section) (part : List ℕ) → IsUncut part → IsPart (section_text s) part → part ≡ section_text s

-- What stands behind a part that has ended: nothing, or the next part.
abbrev pub Follows : List ℕ → List ℕ → Type 0
Follows part more = (more ≡ []) ⊎ (EndsLine part × BeginsSection more)

-- The line that decides on a part decides on it in the whole text too.
abbrev pub SyntaxGoesOn : Type 0
SyntaxGoesOn = (from : Place) (t : Tally) (part more : List ℕ) (first line : ℕ) → Follows part more → FailsAt from t part first line SyntaxAt → FailsAt from t (part ++ more) first line SyntaxAt

abbrev pub LimitGoesOn : Type 0
LimitGoesOn = (w : Which) (from : Place) (t : Tally) (part more : List ℕ) (first line : ℕ) → Follows part more → FailsAt from t part first line (LimitAt w) → FailsAt from t (part ++ more) first line (LimitAt w)
