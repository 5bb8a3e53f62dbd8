-- What a script asks for: the calls of its lanes and the commands of its desks, section after section.
use Rattle.std.specs.Prelude.{ℕ, ◌≤◌, List, length}
use Rattle.std.specs.List.{AllByRecursion}
use Rattle.acct_base.specs.declared.sizes.Sizes.{Sizes}
use Rattle.acct_base.specs.Receipts.{Call}
use Rattle.acct_base.specs.Receipts.Call.{Hook}
use Rattle.acct_base.specs.Ranges.{IsCallInRange}
use Rattle.desk_core.specs.declared.command.Command.{Command}
use Rattle.desk_core.specs.Ranges.{IsInRange}

-- What a section asks for. Each call and each command has the number of its line.
pub record SectionCalls : Type 0 where
  pub lanes : List (List (ℕ × Call))
  pub desk : List (ℕ × Command)

-- What a script asks for: with the names of its interfaces, its privileged apps and the sizes of its tables.
pub record Asked : Type 0 where
  pub names : List (ℕ × List ℕ)
  pub privileged : List ℕ
  pub sizes : Sizes
  pub sections : List SectionCalls

-- ---- ranges

-- All calls and commands of a section are in their ranges.
pub record IsSectionInRange (s : SectionCalls) : Type 0 where
  pub lanes : AllByRecursion (AllByRecursion (λ (c : ℕ × Call). IsCallInRange c.1)) s.lanes
  pub desk : AllByRecursion (λ (c : ℕ × Command). IsInRange c.1) s.desk

-- No more bytes of a packet are held than the packet has.
abbrev pub HeadFits : Call → Type 0
HeadFits (Hook c) = length c.head ≤ c.len
HeadFits _ = Unit {0}

-- This is so for all packets of a section.
abbrev pub HeadsFit : SectionCalls → Type 0
HeadsFit s = AllByRecursion (AllByRecursion (λ (c : ℕ × Call). HeadFits c.1)) s.lanes

-- All calls and commands that a script asks for are in their ranges.
abbrev pub IsAskedInRange : Asked → Type 0
IsAskedInRange asked = AllByRecursion IsSectionInRange asked.sections
