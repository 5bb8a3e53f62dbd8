-- Lanes, desks and sections of a walk, for the contracts of the replay's parts.
use Rattle.std.specs.Prelude.{◌≡◌, ℕ, ◌+◌, ◌*◌, List, [], ◌∷◌, length, filter}
use Rattle.std.specs.List.{AllByRecursion}
use Rattle.acct_base.specs.declared.receipt.LineReceipt.{LineReceipt}
use Rattle.acct_base.specs.Ranges.{IsCallInRange}
use Rattle.acct_base.specs.Receipts.{Call}
use Rattle.desk_core.specs.declared.command.Command.{Command}
use Rattle.desk_core.specs.declared.command.Reply.{Reply}
use Rattle.desk_core.specs.Commands.{collects}
use Rattle.desk_core.specs.Ranges.{IsInRange}
use Rattle.shelf.specs.declared.report.SectionOut.{SectionOut}
use Rattle.captures.specs.Calls.{SectionCalls}
use Rattle.captures.specs.Runs.{Past}
use Rattle.acct_plain.specs.Serial.{walk_lane, walk_lanes, walk_desk, walk_section, walk_sections}
use Rattle.acct_plain.specs.Kept.{Tables, Keeps}

-- The calls of a lane are in their ranges.
abbrev pub LaneFits : List (ℕ × Call) → Type 0
LaneFits calls = AllByRecursion (λ (c : ℕ × Call). IsCallInRange c.1) calls

-- Those of each lane are.
abbrev pub LanesFit : List (List (ℕ × Call)) → Type 0
LanesFit lanes = AllByRecursion LaneFits lanes

-- The commands of a desk are in their ranges.
abbrev pub DeskFits : List (ℕ × Command) → Type 0
DeskFits desk = AllByRecursion (λ (c : ℕ × Command). IsInRange c.1) desk

-- How many calls lanes make.
abbrev pub calls_made : List (List (ℕ × Call)) → ℕ
calls_made [] = 0
calls_made (l ∷ ls) = length l + calls_made ls

-- The commands that may end a phase.
abbrev pub collecting : List (ℕ × Command) → List (ℕ × Command)
collecting desk = filter (λ (c : ℕ × Command). collects c.1) desk

-- For whatever was kept before, these receipts are the walk's for these calls, and what is kept now is what the walk leaves.
abbrev pub IsLaneWalked : Tables → Tables → List (ℕ × Call) → List (ℕ × LineReceipt) → Type 0
IsLaneWalked old new calls out = (past : Past) (n : ℕ) → Keeps old past n →
    (out ≡ (walk_lane old.sizes past calls).1) × Keeps new (walk_lane old.sizes past calls).0 (n + 3 * length calls)

-- The same for the calls of lanes, one lane after another.
abbrev pub AreLanesWalked : Tables → Tables → List (List (ℕ × Call)) → List (List (ℕ × LineReceipt)) → Type 0
AreLanesWalked old new lanes out = (past : Past) (n : ℕ) → Keeps old past n →
    (out ≡ (walk_lanes old.sizes past lanes).1) × Keeps new (walk_lanes old.sizes past lanes).0 (n + 3 * calls_made lanes)

-- The same for the commands of a desk and their replies.
abbrev pub IsDeskWalked : Tables → Tables → List (ℕ × Command) → List (ℕ × Reply) → Type 0
IsDeskWalked old new desk out = (past : Past) (n : ℕ) → Keeps old past n →
    (out ≡ (walk_desk old.book.privileged old.sizes past desk).1) × Keeps new (walk_desk old.book.privileged old.sizes past desk).0 n

-- The same for a section.
abbrev pub IsSectionWalked : Tables → Tables → SectionCalls → SectionOut → Type 0
IsSectionWalked old new calls out = (past : Past) (n : ℕ) → Keeps old past n →
    (out ≡ (walk_section old.book.privileged old.sizes past calls).1)
    × Keeps new (walk_section old.book.privileged old.sizes past calls).0 (n + 3 * calls_made calls.lanes)

-- How many calls sections make.
abbrev pub calls_of_sections : List SectionCalls → ℕ
calls_of_sections [] = 0
calls_of_sections (s ∷ ss) = calls_made s.lanes + calls_of_sections ss

-- The same for sections, one after another.
abbrev pub AreSectionsWalked : Tables → Tables → List SectionCalls → List SectionOut → Type 0
AreSectionsWalked old new sections outs = (past : Past) (n : ℕ) → Keeps old past n →
    (outs ≡ (walk_sections old.book.privileged old.sizes past sections).1)
    × Keeps new (walk_sections old.book.privileged old.sizes past sections).0 (n + 3 * calls_of_sections sections)
