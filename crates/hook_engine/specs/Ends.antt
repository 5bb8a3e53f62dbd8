-- How an engine ends, and what a tally is told then.
use Rattle.std.specs.Prelude.{◌≡◌, ℕ, ◌≤◌, List, [], ◌∷◌, ◌++◌, length, slice_get, Option, None, Some}
use Rattle.std.specs.List.{AllByRecursion}
use Rattle.acct_base.specs.declared.amount.Amount.{Amount}
use Rattle.acct_base.specs.declared.amount.Snapshot.{Snapshot}
use Rattle.acct_base.specs.declared.charge.Charge.{Charge}
use Rattle.acct_base.specs.declared.register.Key.{Key}
use Rattle.acct_base.specs.declared.register.Seen.{Seen}
use Rattle.acct_base.specs.declared.register.Write.{Write}
use Rattle.acct_base.specs.declared.sizes.Sizes.{Sizes}
use Rattle.acct_base.specs.Receipts.{Add}
use Rattle.acct_base.specs.Sums.{AreTotals, HoldsPhase}
use Rattle.hook_engine.specs.Passes.{Pass}

-- The lengths of the longest lists that a room holds: rows of a phase, writes, and totals by app and by interface.
pub record Room : Type 0 where
  pub rows : ℕ
  pub writes : ℕ
  pub apps : ℕ
  pub ifaces : ℕ

-- The room that an engine of these sizes fills at most.
abbrev pub room_for : Sizes → Room
room_for sizes = record { rows = sizes.rows; writes = sizes.regs.writes; apps = sizes.apps; ifaces = sizes.ifaces }

-- What is left of an engine: what the live phase counted, the journal, and the totals by app and by interface.
pub record Rest : Type 0 where
  pub live : Snapshot
  pub journal : List Write
  pub apps : List (ℕ × Amount)
  pub ifaces : List (ℕ × Amount)

-- An engine of these sizes ended with a pass, with the snapshots that the collector's seat gave, and with the writer's journal.
pub record EngineClosed (sizes : Sizes) (pass : Pass) (given : List Snapshot) (journal : List Write) (rest : Rest) : Type 0 where
  pub journal_is : rest.journal ≡ journal
  -- Each snapshot that was given, and then the live one, is what the pass's charges of its phase come to.
  pub phases : (n : ℕ) (s : Snapshot) → slice_get (given ++ rest.live ∷ []) n ≡ Some s → HoldsPhase sizes.rows pass.charges n s
  -- No charge was made in a later phase than the live one.
  pub bounded : AllByRecursion (λ (c : Charge). c.phase ≤ length given) pass.charges
  pub apps_are : AreTotals sizes.apps pass.apps rest.apps
  pub ifaces_are : AreTotals sizes.ifaces pass.ifaces rest.ifaces

-- What a tally is told: charges to labels, adds to apps' totals and to interfaces' totals, reads of the registers, and snapshots.
pub record Told : Type 0 where
  pub charges : List Charge
  pub apps : List Add
  pub ifaces : List Add
  pub reads : List (Key × Seen)
  pub snapshots : List Snapshot

-- The lists of a pass and the snapshots that a collector's seat gave were appended to what was told before.
pub record Ended (pass : Pass) (given : List Snapshot) (before after : Told) : Type 0 where
  pub charges : after.charges ≡ before.charges ++ pass.charges
  pub apps : after.apps ≡ before.apps ++ pass.apps
  pub ifaces : after.ifaces ≡ before.ifaces ++ pass.ifaces
  pub reads : after.reads ≡ before.reads ++ pass.reads
  pub snapshots : after.snapshots ≡ before.snapshots ++ given

-- The same, where the tally tells what it was told.
abbrev pub EndedWhereTold : Pass → List Snapshot → Option Told → Option Told → Type 0
EndedWhereTold pass given None after = Unit {0}
EndedWhereTold pass given (Some before) None = ⊥
EndedWhereTold pass given (Some before) (Some after) = Ended pass given before after
