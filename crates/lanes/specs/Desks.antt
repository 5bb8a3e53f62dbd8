-- What a section's desk does: it carries out the lines of the desk, one after another.
use Rattle.std.specs.Prelude.{◌≡◌, ℕ, List, [], ◌∷◌, filter}
use Rattle.std.specs.List.{AllByRecursion}
use Rattle.acct_base.specs.declared.register.Write.{Write}
use Rattle.acct_base.specs.declared.sizes.RegSizes.{RegSizes}
use Rattle.desk_core.specs.declared.command.Command.{Command}
use Rattle.desk_core.specs.declared.command.Command.TheVariants.{Delete, Collect}
use Rattle.desk_core.specs.declared.command.Reply.{Reply}
use Rattle.desk_core.specs.declared.command.Reply.TheVariants.{Done}
use Rattle.desk_core.specs.Commands.{collects}
use Rattle.desk_core.specs.Ranges.{IsInRange}
use Rattle.desk_regs.specs.Desks.{Commanded}
use Rattle.collector.specs.Collections.{Collected, Deleted}
use Rattle.collector.specs.Collectors.{Gathered}

-- The commands of a desk are in their ranges.
abbrev pub AreCommandsInRange : List (ℕ × Command) → Type 0
AreCommandsInRange desk = AllByRecursion (λ (c : ℕ × Command). IsInRange c.1) desk

-- The commands that may end a phase.
abbrev pub collecting : List (ℕ × Command) → List (ℕ × Command)
collecting desk = filter (λ (c : ℕ × Command). collects c.1) desk

module _ (privileged : List ℕ) (limits : RegSizes) where
  -- A command was carried out, and answered so: a deletion by the collector and the desk, a collection by the collector, and every other command by the desk.
  abbrev pub CarriedOut : List Write → Gathered → Command → Reply → List Write → Gathered → Type 0
  CarriedOut journal before (Delete caller uid tag) answer journal_after after = Deleted privileged limits journal before caller uid tag answer journal_after after
  CarriedOut journal before Collect answer journal_after after = (answer ≡ Done) × (journal_after ≡ journal) × (phase : ℕ) × Collected before phase after
  CarriedOut journal before command answer journal_after after = Commanded privileged limits journal command answer journal_after × (after ≡ before)

  -- The commands of a desk were carried out, one after another: each reply has its line's number.
  abbrev pub DeskRan : List Write → Gathered → List (ℕ × Command) → List (ℕ × Reply) → List Write → Gathered → Type 0
  DeskRan journal before [] [] journal_after after = (journal ≡ journal_after) × (before ≡ after)
  DeskRan journal before (c ∷ cs) (r ∷ rs) journal_after after =
      (mid : List Write) × (next : Gathered) × CarriedOut journal before c.1 r.1 mid next × (r.0 ≡ c.0) × DeskRan mid next cs rs journal_after after
  DeskRan journal before _ _ journal_after after = ⊥
