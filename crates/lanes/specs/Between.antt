-- What a section did between its two meetings.
use Rattle.std.specs.Prelude.{◌≡◌, ℕ, ◌≤◌, ◌+◌, List, [], Vec, Result, length, map, vec_capacity, IfOk}
use Rattle.std.specs.List.{AllByRecursion, AllZip}
use Rattle.std.specs.declared.alloc.AllocError.{AllocError}
use Rattle.std.specs.declared.alloc.Global.{Global}
use Rattle.desk_core.specs.declared.command.Command.{Command}
use Rattle.desk_core.specs.declared.command.Reply.{Reply}
use Rattle.captures.specs.Calls.{SectionCalls}
use Rattle.hook_engine.specs.Tables.{EngineState, PassState}
use Rattle.lanes.specs.declared.desk.Control.{Control}
use Rattle.lanes.specs.declared.section.Done.{Done}
use Rattle.lanes.specs.declared.lane.Seated.{Seated}
use Rattle.lanes.specs.Lanes.{AllCalled, LanesRan, AreLanesInRange, calls_made}
use Rattle.lanes.specs.Seats.{IsReadyFor, IsOf, pass_of, receipts_of}
use Rattle.lanes.specs.Desks.{AreCommandsInRange, collecting}
use Rattle.lanes.specs.Controls.{IsControlOf, IsLevelControl, Keeps, ObeyedAll}

-- The lines of a desk can be carried out, and there is room for their replies.
abbrev pub MayObey : EngineState → List (ℕ × Command) → Control → Vec (ℕ × Reply) Global → Type 0
MayObey engine lines control replies = IsControlOf engine control × IsLevelControl control × AreCommandsInRange lines
    × (control.collector.seat.phase + length (collecting lines) ≤ 1024) × (replies.items ≡ []) × (length lines ≤ vec_capacity replies)

-- They were, unless memory was wanting; the desk and the collector are level in any case.
abbrev pub DidObey : EngineState → List (ℕ × Command) → Control → Control → Result (Vec (ℕ × Reply) Global) AllocError → Type 0
DidObey engine lines before after replies = IsControlOf engine after × IsLevelControl after × Keeps before after
    × IfOk replies (λ replies. ObeyedAll before lines replies.items after)

-- The lanes can run on these seats, and the desk's lines be carried out.
pub record MayRun (engine : EngineState) (calls : SectionCalls) (seats : List Seated) (control : Control) : Type 0 where
  pub ready : AllZip (IsReadyFor engine) calls.lanes seats
  pub of : IsControlOf engine control
  pub level : IsLevelControl control
  pub commands : AreCommandsInRange calls.desk
  pub phases : control.collector.seat.phase + length (collecting calls.desk) ≤ 1024

-- The lanes ran on their seats. The desk's lines were carried out, unless memory was wanting; the desk and the collector are level in any case.
pub record DidRun (engine : EngineState) (calls : SectionCalls) (seats : List Seated) (control : Control) (seats_after : List Seated) (control_after : Control) (replies : Result (Vec (ℕ × Reply) Global) AllocError) : Type 0 where
  pub called : AllCalled engine.sizes.calls engine.sizes (map pass_of seats) calls.lanes (map receipts_of seats_after) (map pass_of seats_after)
  pub seats_of : AllByRecursion (IsOf engine) seats_after
  pub of : IsControlOf engine control_after
  pub level : IsLevelControl control_after
  pub keeps : Keeps control control_after
  pub answers : IfOk replies (λ replies. ObeyedAll control calls.desk replies.items control_after)

-- The section can go on with this pass, this desk and this collector.
pub record MayGoOn (engine : EngineState) (pass : PassState) (control : Control) (calls : SectionCalls) : Type 0 where
  pub from : pass.tables ≡ engine.tables
  pub enough : calls_made calls.lanes ≤ pass.has.left
  pub lanes : AreLanesInRange calls.lanes
  pub of : IsControlOf engine control
  pub level : IsLevelControl control
  pub commands : AreCommandsInRange calls.desk
  pub phases : control.collector.seat.phase + length (collecting calls.desk) ≤ 1024

-- The lanes ran on the pass. The desk's lines were carried out, unless memory was wanting; the desk and the collector are level in any case.
pub record DidGoOn (engine : EngineState) (pass : PassState) (control : Control) (calls : SectionCalls) (done : Done) : Type 0 where
  pub from : done.pass.tables ≡ engine.tables
  pub lanes : LanesRan engine.sizes.calls engine.sizes pass.has calls.lanes done.lanes.items done.pass.has
  pub of : IsControlOf engine done.control
  pub level : IsLevelControl done.control
  pub keeps : Keeps control done.control
  pub replies : IfOk done.replies (λ replies. ObeyedAll control calls.desk replies.items done.control)
