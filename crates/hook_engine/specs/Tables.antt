-- What is seen of an engine and of its passes, beside what a pass has.
use Rattle.std.specs.Prelude.{◌≡◌, ℕ, ◌+◌, List, max}
use Rattle.acct_base.specs.declared.amount.Amount.{Amount}
use Rattle.acct_base.specs.declared.sizes.Sizes.{Sizes}
use Rattle.acct_base.specs.Sums.{added}
use Rattle.reg_words.specs.Seats.{Origin, WriterState}
use Rattle.grace_rows.specs.Seats.{PairedState, CollectState}
use Rattle.total_rows.specs.Seats.{TableId, TotalsState, SeatState, noted_of, greater}
use Rattle.total_rows.specs.declared.plan.Note.{Note}
use Rattle.hook_engine.specs.Passes.{Pass, seen}

-- Where seats come from: registers, two maps of statistics, totals by app and totals by interface.
pub record Tables : Type 0 where
  pub regs : Origin
  pub maps : TableId
  pub apps : TableId
  pub ifaces : TableId

-- An engine is seen as its sizes and its tables, by which it knows its passes and the desk's seats.
pub record EngineState : Type 0 where
  pub sizes : Sizes
  pub tables : Tables

-- The two maps of an engine, with its rows and its calls.
abbrev pub maps_of : EngineState → PairedState
maps_of engine = record { table = engine.tables.maps; rows = engine.sizes.rows; calls = engine.sizes.calls }

-- The totals by app.
abbrev pub apps_of : EngineState → TotalsState
apps_of engine = record { table = engine.tables.apps; rows = engine.sizes.apps; calls = engine.sizes.calls }

-- A pass came from an engine with these tables. It has what its calls did with it, the number of its loads of the published front with what the last of them gave, and notes of what it learned of other seats' adds to apps.
pub record PassState : Type 0 where
  pub tables : Tables
  pub has : Pass
  pub loads : ℕ
  pub loaded : ℕ
  pub notes : List Note

-- What a pass knows of a uid's app total: what it learned, and at least the sum of its own landed adds.
abbrev pub knows : PassState → ℕ → Amount
knows pass uid = greater (noted_of pass.notes uid) (added pass.has.apps uid)

-- A call loaded the published front once, and this front is the greater of what it found and of what the pass knew.
pub record LoadedFront (before after : PassState) (front : ℕ) : Type 0 where
  pub once : after.loads ≡ before.loads + 1
  pub answer : front ≡ max after.loaded (seen before.has)

-- The desk's three seats came from an engine with these tables.
pub record AreSeatsOf (tables : Tables) (w : WriterState) (c : CollectState) (a : SeatState) : Type 0 where
  pub writer : w.origin ≡ tables.regs
  pub collect : c.table ≡ tables.maps
  pub apps : a.table ≡ tables.apps
