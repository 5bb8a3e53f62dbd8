-- A script as a whole, and the line that decides on a text that is none.
use Rattle.std.specs.Prelude.{◌≡◌, ◌⊎◌, ℕ, ◌+◌, List, [], ◌∷◌, ◌++◌, take}
use Rattle.std.specs.List.{flat_map}
use Rattle.script_text.specs.declared.header.Header.{Header}
use Rattle.script_text.specs.declared.section.Section.{Section}
use Rattle.script_text.specs.declared.limits.Counts.{Counts}
use Rattle.script_text.specs.declared.limits.Tally.{Tally}
use Rattle.script_text.specs.declared.place.Place.{Place}
use Rattle.script_text.specs.declared.place.Place.TheVariants as places
use Rattle.script_text.specs.declared.fault.Which.{Which}
use Rattle.script_text.specs.Parts.{header_lines, header_text, IsHeader, section_lines, section_text, IsSection}
use Rattle.script_text.specs.Limits.{KeepLimits, no_tally, tally_before, header_counts, counts_after}
use Rattle.script_text.specs.Faults.{BeginsSection, FailsAt, SyntaxAt, LimitAt}

-- A header whose lines pass no limit.
pub record IsFirstHeader (h : Header) : Type 0 where
  pub header : IsHeader h
  pub limits : KeepLimits no_tally (header_lines h)

-- A section that may stand behind what these counts are of: its lines are numbered on, and none passes a limit.
pub record IsNextSection (before : Counts) (s : Section) : Type 0 where
  pub section : IsSection s
  pub first : s.first ≡ before.lines + 1
  pub limits : KeepLimits (tally_before before) (section_lines s)

-- Sections one after another, behind what these counts are of.
abbrev pub AreSections : Counts → List Section → Type 0
AreSections before [] = Unit {0}
AreSections before (s ∷ ss) = IsNextSection before s × AreSections (counts_after before s) ss

-- A script within all limits.
pub record IsScript (header : Header) (sections : List Section) : Type 0 where
  pub header_is : IsFirstHeader header
  pub sections_are : AreSections (header_counts header) sections

-- The one spelling of a script.
abbrev pub script_text : Header → List Section → List ℕ
script_text header sections = header_text header ++ flat_map section_text sections

-- The counts behind sections.
abbrev pub counts_behind : Counts → List Section → Counts
counts_behind before [] = before
counts_behind before (s ∷ ss) = counts_behind (counts_after before s) ss

-- What a script counts for.
abbrev pub script_counts : Header → List Section → Counts
script_counts header sections = counts_behind (header_counts header) sections

-- The text begins with a script, behind which another section begins.
pub record GoesOn (text : List ℕ) (header : Header) (sections : List Section) (rest : List ℕ) : Type 0 where
  pub script : IsScript header sections
  pub read : text ≡ script_text header sections ++ rest
  pub begins : BeginsSection rest

-- The line that decides on a text: the first of the header that fails, or the first of a section behind a script.
abbrev pub DecidesAt : List ℕ → ℕ → (Place → List (List ℕ) → Tally → List ℕ → Type 0) → Type 0
DecidesAt text line Fails =
    FailsAt places.Start no_tally text 1 line Fails
    ⊎ ((header : Header) × (sections : List Section) × (rest : List ℕ) × GoesOn text header sections rest
    × FailsAt places.Next (tally_before (script_counts header sections)) rest ((script_counts header sections).lines + 1) line Fails)

-- The bytes of a text that are looked at: those up to the one that passes the limit on bytes.
abbrev pub looked_at : List ℕ → List ℕ
looked_at text = take 268435457 text

-- With this line the text is no script any more.
abbrev pub HasSyntaxFault : List ℕ → ℕ → Type 0
HasSyntaxFault text line = DecidesAt (looked_at text) line SyntaxAt

-- This line of the text passes a limit.
abbrev pub HasLimitFault : List ℕ → Which → ℕ → Type 0
HasLimitFault text which line = DecidesAt (looked_at text) line (LimitAt which)
