-- A section that is counted, and not kept.
use Rattle.std.specs.Prelude.{◌≡◌, ◌≤◌, ℕ, List, [], ◌++◌}
use Rattle.std.specs.List.{AllByRecursion}
use Rattle.script_text.specs.declared.hook_line.HookLine.TheVariants as hooks
use Rattle.script_text.specs.declared.line.Line.{Line}
use Rattle.script_text.specs.declared.line.Line.TheVariants as lines
use Rattle.script_text.specs.declared.place.Place.TheVariants.{Next}
use Rattle.script_text.specs.declared.section.Section.{Section}
use Rattle.script_text.specs.declared.limits.Counts.{Counts}
use Rattle.script_text.specs.Lines.{IsLine, spelled, LaneLine}
use Rattle.script_text.specs.Order.{InOrder, MayStand}
use Rattle.script_text.specs.Parts.{lines_text, section_text}
use Rattle.script_text.specs.Faults.{IsPart}
use Rattle.script_text.specs.Limits.{IsWithinLimits, counts_after}
use Rattle.script_text.specs.Script.{IsNextSection}

-- The line of a lane takes a packet of a capture.
abbrev pub TakesPacket : LaneLine → Type 0
TakesPacket (hooks.Packet dir uid iface index cookie) = Unit {0}
TakesPacket _ = ⊥

-- A line has to do with a capture: it gives bytes of it, or takes a packet of it.
abbrev pub NeedsCapture : Line → Type 0
NeedsCapture (lines.Cap bytes) = Unit {0}
NeedsCapture (lines.Hook h) = TakesPacket h
NeedsCapture _ = ⊥

-- The lines of a lane take no packet of a capture.
abbrev pub TakeNoPackets : List (ℕ × LaneLine) → Type 0
TakeNoPackets lane = AllByRecursion (λ (h : ℕ × LaneLine). TakesPacket h.1 → ⊥) lane

-- A section has no capture, and takes no packet of one.
pub record HasNoCapture (s : Section) : Type 0 where
  pub no_caps : s.caps ≡ []
  pub no_bytes : s.capture ≡ []
  pub no_packets : AllByRecursion TakeNoPackets s.lanes

-- The bytes are a section that has no capture, and these are the counts with it.
pub record IsCountedAs (before : Counts) (bytes : List ℕ) (counts : Counts) : Type 0 where
  pub section : Section
  pub next : IsNextSection before section
  pub counts_are : counts ≡ counts_after before section
  pub limits : IsWithinLimits counts
  pub lines : counts.lines ≤ counts.bytes
  pub spelled : IsPart (section_text section) bytes
  pub no_capture : HasNoCapture section

-- The bytes begin with lines of a section, the last of which has to do with a capture.
pub record ReachesCapture (bytes : List ℕ) : Type 0 where
  pub front : List Line
  pub line : Line
  pub more : List ℕ
  pub order : InOrder Next [] front
  pub stands : MayStand Next front line
  pub fits : AllByRecursion IsLine front × IsLine line
  pub read : bytes ≡ lines_text front ++ (spelled line ++ more)
  pub needs : NeedsCapture line
