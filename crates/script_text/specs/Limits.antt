-- The limits of a script, and what is counted for them.
use Rattle.std.specs.Prelude.{◌≡◌, ℕ, ◌+◌, ◌≤◌, ◌==◌, nat_lt, if◌then◌else◌, List, [], ◌∷◌, length, Option, Some, None}
use Rattle.desk_core.specs.Commands.{collects}
use Rattle.script_text.specs.declared.line.Line.{Line}
use Rattle.script_text.specs.declared.header.Header.{Header}
use Rattle.script_text.specs.declared.section.Section.{Section}
use Rattle.script_text.specs.declared.limits.Counts.{Counts}
use Rattle.script_text.specs.declared.limits.Tally.{Tally}
use Rattle.script_text.specs.declared.fault.Which.{Which}
use Rattle.script_text.specs.Lines.{spelled}
use Rattle.script_text.specs.Parts.{header_lines, section_lines}
use Rattle.desk_core.specs.declared.command.Command.TheVariants as command
use Rattle.script_text.specs.declared.line.Line.TheVariants as lines
use Rattle.script_text.specs.declared.fault.Which.TheVariants as which

abbrev pub most_bytes : ℕ
most_bytes = 268435456

-- The first line of a text with its line feed; where there is none, the text.
abbrev pub first_line : List ℕ → List ℕ
first_line [] = []
first_line (b ∷ bs) = b ∷ (if b == 10 then [] else first_line bs)

-- The first line without its line feed.
abbrev pub before_feed : List ℕ → List ℕ
before_feed [] = []
before_feed (b ∷ bs) = if b == 10 then [] else b ∷ before_feed bs

-- The limit on bytes that the first line of a text passes, whatever it says.
abbrev pub passed_by_bytes : Tally → List ℕ → Option Which
passed_by_bytes t rest =
    if nat_lt most_bytes (t.bytes + length (first_line rest)) then Some which.ScriptBytes
    else if nat_lt 65536 (length (before_feed rest)) then Some which.LineBytes
    else None

-- What a line counts for, beside its bytes.
abbrev pub weighed : Tally → Line → Tally
weighed t (lines.Priv app) = record t { privs = t.privs + 1 }
weighed t (lines.If iface name) = record t { ifs = t.ifs + 1 }
weighed t lines.Section = record t { sections = t.sections + 1 }
weighed t (lines.Cap bytes) = record t { capture = t.capture + length bytes }
weighed t lines.Lane = record t { lanes = t.lanes + 1 }
weighed t (lines.Hook h) = record t { hooks = t.hooks + 1 }
weighed t (lines.Command c) = record t { desk_lines = t.desk_lines + 1; collections = t.collections + (if collects c then 1 else 0) }
weighed t l = t

-- The tally with a line more.
abbrev pub added : Tally → Line → Tally
added t l = weighed (record t { bytes = t.bytes + length (spelled l) }) l

abbrev pub tallied : Tally → List Line → Tally
tallied t [] = t
tallied t (l ∷ ls) = tallied (added t l) ls

-- The uids of a `replace` line.
abbrev pub uids_in : Line → ℕ
uids_in (lines.Command (command.Replace c uids)) = length uids
uids_in l = 0

-- The first of the other limits that is passed with this line, by the tally with it.
abbrev pub passed : Tally → Line → Option Which
passed t l =
    if nat_lt 64 t.privs then Some which.Privs
    else if nat_lt 1000 t.ifs then Some which.Ifs
    else if nat_lt 4096 t.sections then Some which.Sections
    else if nat_lt 1048576 t.capture then Some which.CaptureBytes
    else if nat_lt 16 t.lanes then Some which.Lanes
    else if nat_lt 1048576 t.hooks then Some which.Hooks
    else if nat_lt 65536 t.desk_lines then Some which.DeskLines
    else if nat_lt 1024 t.collections then Some which.Collections
    else if nat_lt 2000 (uids_in l) then Some which.Uids
    else None

-- None of the lines passes a limit.
abbrev pub KeepLimits : Tally → List Line → Type 0
KeepLimits t [] = Unit {0}
KeepLimits t (l ∷ ls) = (passed_by_bytes t (spelled l) ≡ None) × ((passed (added t l) l ≡ None) × KeepLimits (added t l) ls)

-- Before a script nothing is counted.
abbrev pub no_tally : Tally
no_tally = record { bytes = 0; privs = 0; ifs = 0; sections = 0; capture = 0; lanes = 0; hooks = 0; desk_lines = 0; collections = 0 }

-- Before a section what stands before it is counted, as far as its limits are the script's.
abbrev pub tally_before : Counts → Tally
tally_before c = record { bytes = c.bytes; privs = 0; ifs = 0; sections = c.sections; capture = 0; lanes = 0; hooks = c.hooks; desk_lines = c.desk_lines; collections = c.collections }

abbrev pub counts_of : Tally → ℕ → Counts
counts_of t n = record { bytes = t.bytes; lines = n; sections = t.sections; hooks = t.hooks; desk_lines = t.desk_lines; collections = t.collections }

abbrev pub header_counts : Header → Counts
header_counts h = counts_of (tallied no_tally (header_lines h)) (length (header_lines h))

-- The counts when a section has been read too.
abbrev pub counts_after : Counts → Section → Counts
counts_after before s = counts_of (tallied (tally_before before) (section_lines s)) (before.lines + length (section_lines s))

-- No limit of a script is passed.
pub record IsWithinLimits (counts : Counts) : Type 0 where
  pub bytes : counts.bytes ≤ 268435456
  pub sections : counts.sections ≤ 4096
  pub hooks : counts.hooks ≤ 1048576
  pub desk_lines : counts.desk_lines ≤ 65536
  pub collections : counts.collections ≤ 1024

-- None of the limits that are counted is passed.
pub record IsSmall (t : Tally) : Type 0 where
  pub bytes_fit : t.bytes ≤ 268435456
  pub privs_fit : t.privs ≤ 64
  pub ifs_fit : t.ifs ≤ 1000
  pub sections_fit : t.sections ≤ 4096
  pub capture_fits : t.capture ≤ 1048576
  pub lanes_fit : t.lanes ≤ 16
  pub hooks_fit : t.hooks ≤ 1048576
  pub desk_lines_fit : t.desk_lines ≤ 65536
  pub collections_fit : t.collections ≤ 1024
