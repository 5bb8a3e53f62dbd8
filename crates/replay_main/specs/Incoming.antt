-- How a script comes in from a source, part by part.
use Rattle.std.specs.Prelude.{◌≡◌, ◌⊎◌, ℕ, ◌+◌, ◌-◌, ◌≤◌, Bool, true, false, List, [], ◌++◌, length, take, drop, Option}
use Rattle.std.specs.Io.KnownBytes.{Consumes, IsAtEnd}
use Rattle.script_text.specs.declared.header.Header.{Header}
use Rattle.script_text.specs.declared.limits.Tally.{Tally}
use Rattle.script_text.specs.declared.place.Place.TheVariants.{Next}
use Rattle.script_text.specs.declared.section.Section.{Section}
use Rattle.script_text.specs.declared.limits.Counts.{Counts}
use Rattle.script_text.specs.Limits.{tally_before, counts_after}
use Rattle.script_text.specs.Parts.{section_text}
use Rattle.script_text.specs.Script.{IsNextSection}
use Rattle.script_text.specs.Counted.{HasNoCapture}
use Rattle.script_text.specs.Faults.{BeginsSection, IsPart, FailsAt, SyntaxAt, LimitAt}
use Rattle.script_text.specs.Cuts.{EndsLine, IsUncut}
use Rattle.shelf.specs.declared.report.SectionOut.{SectionOut}
use Rattle.acct_plain.specs.Kept.{Tables}
use Rattle.replay_main.specs.declared.parts.Parts.{Parts}
use Rattle.replay_main.specs.declared.incoming.Incoming.{Incoming}
use Rattle.replay_main.specs.declared.incoming.Counted.{Counted}
use Rattle.replay_main.specs.declared.incoming.Counted.TheVariants as counted
use Rattle.replay_main.specs.declared.fault.Fault.{Fault}
use Rattle.replay_main.specs.declared.fault.Fault.TheVariants as fault
use Rattle.replay_main.specs.Reached.{IsWithin, IsReplayedTo}

-- The bytes of the piece that was read last which the cutter was not fed.
abbrev pub unfed : Parts → List ℕ
unfed p = take (p.filled - p.fed) (drop p.fed p.piece.items)

-- The bytes that were read and stand in no part yet.
abbrev pub ahead : Parts → List ℕ
ahead p = p.cutter ++ unfed p

-- A piece has 65,536 bytes, and no more bytes are read than show that a script has too many.
pub record IsReader (p : Parts) : Type 0 where
  pub fed_is : p.fed ≤ p.filled
  pub filled_is : p.filled ≤ 65536
  pub size : length p.piece.items ≡ 65536
  pub few : p.count ≤ 268435457

-- Bytes were taken off a source and counted, and no more than show that a script has too many.
pub record HasTaken (was now : Option (List ℕ)) (old new : Parts) : Type 0 where
  pub got : List ℕ
  pub read : Consumes was now got
  pub counted : new.count ≡ old.count + length got
  pub few : new.count ≤ 268435457

-- Nothing comes behind what was read: the source ended, or gave more bytes than a script has.
abbrev pub IsOver : Option (List ℕ) → Parts → Type 0
IsOver left p = (ahead p ≡ []) × (IsAtEnd left ⊎ (p.count ≡ 268435457))

-- What comes next: nothing, where the script is over, else a section.
abbrev pub ComesNext : Bool → Option (List ℕ) → Parts → Type 0
ComesNext true left p = IsOver left p
ComesNext false left p = BeginsSection (ahead p)

-- Each part but the last ends its line.
abbrev pub EndsUnless : Bool → List ℕ → Type 0
EndsUnless true part = Unit {0}
EndsUnless false part = EndsLine part

-- A part was taken off the bytes that were read before and with it.
pub record TakesPart (was now : Option (List ℕ)) (old new : Parts) (part : List ℕ) (is_last : Bool) : Type 0 where
  pub got : List ℕ
  pub read : Consumes was now got
  pub bytes : ahead old ++ got ≡ part ++ ahead new
  pub counted : new.count ≡ old.count + length got
  pub reader : IsReader new
  pub uncut : IsUncut part
  pub ends : EndsUnless is_last part
  pub next : ComesNext is_last now new

-- What a source gave so far: these bytes in parts, and those ahead of them.
pub record HasGiven (was now : Option (List ℕ)) (p : Parts) (front : List ℕ) : Type 0 where
  pub read : Consumes was now (front ++ ahead p)
  pub counted : p.count ≡ length (front ++ ahead p)

-- So much of a script has come in, in whole parts.
pub record HasCome (was now : Option (List ℕ)) (i : Incoming) (front : List ℕ) : Type 0 where
  pub given : HasGiven was now i.parts front
  pub reader : IsReader i.parts
  pub next : ComesNext i.is_over now i.parts

-- A section may be read: the reader is in order, and unless the script is over a section begins.
pub record IsComing (i : Incoming) : Type 0 where
  pub reader : IsReader i.parts
  pub begins : i.is_over ≡ false → BeginsSection (ahead i.parts)

-- ---- a script of which the counts alone are wanted

-- The bytes are this section, up to where the next one begins or they end, and these are the counts with it.
pub record IsCountedSection (before : Counts) (bytes : List ℕ) (s : Section) (counts : Counts) : Type 0 where
  pub next : IsNextSection before s
  pub counts_are : counts ≡ counts_after before s
  pub within : IsWithin counts
  pub spelled : IsPart (section_text s) bytes

-- The same of a section which has nothing to do with a capture, and of one that was kept.
abbrev pub IsCountedPart : Counts → List ℕ → Counted → Counts → Type 0
IsCountedPart before bytes counted.Alone counts = (s : Section) × IsCountedSection before bytes s counts × HasNoCapture s
IsCountedPart before bytes (counted.Kept s) counts = IsCountedSection before bytes s counts

-- A section was taken off what comes in, and counted.
pub record TakesSection (was now : Option (List ℕ)) (old new : Incoming) (s : Section) : Type 0 where
  pub next : IsNextSection old.counts s
  pub counts_are : new.counts ≡ counts_after old.counts s
  pub within : IsWithin new.counts
  pub takes : TakesPart was now old.parts new.parts (section_text s) new.is_over
  pub open_before : old.is_over ≡ false

-- So was one which has nothing to do with a capture, or one that was kept.
abbrev pub HasCounted : Option (List ℕ) → Option (List ℕ) → Incoming → Incoming → Counted → Type 0
HasCounted was now old new counted.Alone = (s : Section) × TakesSection was now old new s × HasNoCapture s
HasCounted was now old new (counted.Kept s) = TakesSection was now old new s

-- ---- faults

-- The line of a section that decides, by its fault.
abbrev pub FailsIn : Tally → ℕ → List ℕ → Fault → Type 0
FailsIn t first part (fault.Syntax line) = FailsAt Next t part first line SyntaxAt
FailsIn t first part (fault.Limit which line) = FailsAt Next t part first line (LimitAt which)
FailsIn t first part _ = ⊥

-- A part was taken that is no section, since a line of it decides.
pub record SectionFails (was now : Option (List ℕ)) (old : Incoming) (new : Parts) (f : Fault) : Type 0 where
  pub part : List ℕ
  pub is_last : Bool
  pub takes : TakesPart was now old.parts new part is_last
  pub open_before : old.is_over ≡ false
  pub fails : FailsIn (tally_before old.counts) (old.counts.lines + 1) part f

-- What has come in was judged and replayed.
abbrev pub ReplayedSoFar : Option (List ℕ) → Option (List ℕ) → Incoming → Header → Tables → Tables → List SectionOut → Type 0
ReplayedSoFar was now i header first then outs = (front : List ℕ) × HasCome was now i front × IsReplayedTo front header i.counts first then outs
