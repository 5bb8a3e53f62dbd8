-- A lane's seat: its pass, and room for its receipts.
use Rattle.std.specs.Prelude.{◌≡◌, ℕ, ◌≤◌, List, [], ◌∷◌, ◌++◌, length, slice_get, Some}
use Rattle.acct_base.specs.declared.receipt.LineReceipt.{LineReceipt}
use Rattle.acct_base.specs.Receipts.{Call}
use Rattle.shelf.specs.Room.{Room}
use Rattle.hook_engine.specs.Passes.{Pass, Called}
use Rattle.hook_engine.specs.Tables.{EngineState}
use Rattle.lanes.specs.declared.lane.Seated.{Seated}
use Rattle.lanes.specs.Lanes.{AreCallsInRange, LaneCalled}

-- What the seat's pass has, and the receipts so far.
abbrev pub pass_of : Seated → Pass
pass_of seat = seat.pass.has

abbrev pub receipts_of : Seated → List (ℕ × LineReceipt)
receipts_of seat = seat.receipts.receipts

-- Room for a receipt of each call of a lane.
abbrev pub room_for : List (ℕ × Call) → Room
room_for lane = record { receipts = []; room = length lane }

-- The seat's pass is the engine's.
abbrev pub IsOf : EngineState → Seated → Type 0
IsOf engine seat = seat.pass.tables ≡ engine.tables

-- A lane can run on the seat: its calls are in range, and there is a call of the budget and room for a receipt for each of them.
pub record IsReadyFor (engine : EngineState) (lane : List (ℕ × Call)) (seat : Seated) : Type 0 where
  pub of : IsOf engine seat
  pub range : AreCallsInRange lane
  pub calls : length lane ≤ seat.pass.has.left
  pub room : seat.receipts ≡ room_for lane

-- A lane ran on the seat.
pub record LaneRan (engine : EngineState) (lane : List (ℕ × Call)) (before after : Seated) : Type 0 where
  pub of : IsOf engine after
  pub called : LaneCalled engine.sizes.calls engine.sizes (pass_of before) lane (receipts_of after) (pass_of after)

-- The call at a place of a lane was made on the seat, and its receipt stands behind the others.
pub record CallMade (engine : EngineState) (lane : List (ℕ × Call)) (place : ℕ) (before after : Seated) : Type 0 where
  pub call : ℕ × Call
  pub receipt : ℕ × LineReceipt
  pub is : slice_get lane place ≡ Some call
  pub line : receipt.0 ≡ call.0
  pub called : Called engine.sizes.calls engine.sizes (pass_of before) call.1 receipt.1 (pass_of after)
  pub of : IsOf engine after
  pub put : after.receipts ≡ record { receipts = receipts_of before ++ receipt ∷ []; room = before.receipts.room }

-- Each lane ran on its seat.
abbrev pub AllRan : EngineState → List (List (ℕ × Call)) → List Seated → List Seated → Type 0
AllRan engine lanes before after = (length after ≡ length before) × ((i : ℕ) (lane : List (ℕ × Call)) (s e : Seated) →
    slice_get lanes i ≡ Some lane → slice_get before i ≡ Some s → slice_get after i ≡ Some e → LaneRan engine lane s e)
