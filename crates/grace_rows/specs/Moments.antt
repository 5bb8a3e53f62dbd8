-- What the calls promise of each moment at which the table may be, after them.
use Rattle.std.specs.Prelude.{◌≡◌, ℕ, ◌+◌, ◌<◌, List, map, drop, slice_index}
use mathlib.Core.Option.{some}
use lib.ListN.{get_elem?}
use Rattle.atomic_table.specs.Table as table
use Rattle.acct_base.specs.declared.charge.Landed.{Landed}
use Rattle.acct_base.specs.declared.charge.Landed.TheVariants.{Row, Full}
use Rattle.acct_base.specs.declared.label.Label.{Label}
use Rattle.grace_core.specs.Machine.{exits_at}
use Rattle.grace_core.specs.Phases.{NobodyInside}
use Rattle.grace_core.specs.Sums.{insiders}
use Rattle.grace_rows.specs.declared.rule.Sight.{Sight}
use Rattle.grace_rows.specs.declared.rule.Spot.{Spot}
use Rattle.grace_rows.specs.declared.rule.Try.{Try}
use Rattle.grace_rows.specs.Seats.{PairedState, FlippedState}
use Rattle.grace_rows.specs.Shown.{Kept, collector_of}
use Rattle.grace_rows.specs.Sights.{hook_of, spots_of}
use Rattle.grace_rows.specs.Spots.{HasItsLabel}

-- A moment of the table: its words and its views.
abbrev pub Moment : Type 0
Moment = table.State Try Sight

-- It holds at each moment: whatever words and views the maps have, as long as they keep the rule of the table.
abbrev pub AtEachMoment : PairedState → (Moment → Type 0) → Type 0
AtEachMoment maps P = (s : Moment) → Kept (record { rows = maps.rows; calls = maps.calls }) s → P s

-- A seat with just these notes is one of the views.
abbrev pub Noted : List Spot → Moment → Type 0
Noted spots s = (id : ℕ) × (x : Sight) × (get_elem? s.views id ≡ some x) × (spots_of x ≡ spots)

-- The row that a charge answers is the label's: it is one of the map's, and at each moment at which the seat has these notes the row has both key words of the label, as long as the phase is in use.
abbrev pub IsRowOf : PairedState → List Spot → ℕ → Label → Landed → Type 0
IsRowOf maps spots phase label (Row row) = (row < maps.rows) × AtEachMoment maps (λ s. Noted spots s → HasItsLabel maps.rows (drop 3 s.words) (collector_of s.views) phase label row)
IsRowOf maps spots phase label Full = Unit {0}

-- The old phase has been left so often.
abbrev pub left_by : Moment → ℕ → ℕ
left_by s phase = exits_at (slice_index s.words 1, slice_index s.words 2) phase

-- What a flip counts as entered is how many hooks entered the old phase before it: at each moment while the collector stands there, those that have left the phase and those that are still inside it.
abbrev pub EnteredBefore : PairedState → FlippedState → Type 0
EnteredBefore maps flipped = AtEachMoment maps (λ s. collector_of s.views ≡ flipped.collector → flipped.entered ≡ left_by s flipped.phase + insiders flipped.phase (map hook_of s.views))

-- All that entered the old phase have left it: at each moment while the collector stands there, no hook is inside it.
abbrev pub AllHaveLeft : PairedState → FlippedState → Type 0
AllHaveLeft maps flipped = AtEachMoment maps (λ s. collector_of s.views ≡ flipped.collector → NobodyInside flipped.phase (map hook_of s.views))
