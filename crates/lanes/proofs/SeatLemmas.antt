-- Seats before lanes run and after: one seat with the whole pass, or one for each lane.
use Rattle.std.proofs.Common.{◌≡◌, ◌≢◌, ℕ, suc, ◌≤◌, List, [], ◌∷◌, length, map, refl, sym, ap, subst, ◌∙◌, arith}
use Rattle.std.specs.Prelude.{slice_get, IfSome}
use Rattle.std.specs.List.{AllByRecursion, AllZip}
use Rattle.acct_base.specs.declared.receipt.LineReceipt.{LineReceipt}
use Rattle.acct_base.specs.declared.sizes.Sizes.{Sizes}
use Rattle.acct_base.specs.Receipts.{Call}
use Rattle.shelf.specs.Room.{Room}
use Rattle.hook_engine.specs.Passes.{Pass}
use Rattle.hook_engine.specs.Tables.{EngineState, PassState}
use Rattle.lanes.specs.declared.lane.Seated.{Seated}
use Rattle.lanes.specs.Lanes.{AllSplit, AllCalled, AllJoined, LanesRan, AreLanesInRange, calls_made}
use Rattle.lanes.specs.Seats.{IsReadyFor, IsOf, pass_of, receipts_of, room_for}

-- ---- a lane by itself

-- The seat of a lane by itself.
abbrev pub whole_seat : PassState → Room → Seated
whole_seat pass room = record { pass = pass; receipts = room }

-- What is known of the seats where a lane is by itself.
abbrev pub HasWhole : PassState → List Room → List Seated → Type 0
HasWhole pass rooms seats = IfSome (slice_get rooms 0) (λ room. seats ≡ whole_seat pass room ∷ [])

-- What is known of what a lane by itself left.
abbrev pub GaveBack : List Seated → PassState → List (List (ℕ × LineReceipt)) → Type 0
GaveBack seats end outs = IfSome (slice_get seats 0) (λ seat. (end ≡ seat.pass) × (outs ≡ receipts_of seat ∷ []))

pub whole_ready : (engine : EngineState) (pass : PassState) (lanes : List (List (ℕ × Call))) (rooms : List Room) (seats : List Seated) → length lanes ≡ 1 → rooms ≡ map room_for lanes → HasWhole pass rooms seats →
    pass.tables ≡ engine.tables → AreLanesInRange lanes → calls_made lanes ≤ pass.has.left → AllZip (IsReadyFor engine) lanes seats
whole_ready engine pass [] rooms seats one are has of range left = absurd (omega (arith, one))
whole_ready engine pass (lane ∷ l ∷ lanes) rooms seats one are has of range left = absurd (omega (arith, one))
whole_ready engine pass (lane ∷ []) rooms seats one are has of range left =
    let there : seats ≡ whole_seat pass (room_for lane) ∷ [] = subst (λ (rs : List Room). HasWhole pass rs seats) are has in
    subst (AllZip (IsReadyFor engine) (lane ∷ [])) (sym there) (record { of = of; range = range.0; calls = omega (arith, left); room = refl }, tt)

pub whole_ran : (engine : EngineState) (pass : PassState) (lanes : List (List (ℕ × Call))) (rooms : List Room) (seats after : List Seated) (end : PassState) (outs : List (List (ℕ × LineReceipt))) →
    length lanes ≡ 1 → rooms ≡ map room_for lanes → HasWhole pass rooms seats →
    AllCalled engine.sizes.calls engine.sizes (map pass_of seats) lanes (map receipts_of after) (map pass_of after) → GaveBack after end outs → LanesRan engine.sizes.calls engine.sizes pass.has lanes outs end.has
whole_ran engine pass [] rooms seats after end outs one are has called back = absurd (omega (arith, one))
whole_ran engine pass (lane ∷ l ∷ lanes) rooms seats after end outs one are has called back = absurd (omega (arith, one))
whole_ran engine pass (lane ∷ []) rooms seats after end outs one are has called back =
    let there : seats ≡ whole_seat pass (room_for lane) ∷ [] = subst (λ (rs : List Room). HasWhole pass rs seats) are has in
    let on_pass : AllCalled engine.sizes.calls engine.sizes (pass.has ∷ []) (lane ∷ []) (map receipts_of after) (map pass_of after) =
    subst (λ (s : List Seated). AllCalled engine.sizes.calls engine.sizes (map pass_of s) (lane ∷ []) (map receipts_of after) (map pass_of after)) there called in
    ends after on_pass back where
      ends : (after : List Seated) → AllCalled engine.sizes.calls engine.sizes (pass.has ∷ []) (lane ∷ []) (map receipts_of after) (map pass_of after) → GaveBack after end outs →
          LanesRan engine.sizes.calls engine.sizes pass.has (lane ∷ []) outs end.has
      ends [] h b = absurd h
      ends (e ∷ f ∷ es) h b = absurd h.1
      ends (e ∷ []) h b = subst (λ (x : List (List (ℕ × LineReceipt)) × PassState). LanesRan engine.sizes.calls engine.sizes pass.has (lane ∷ []) x.0 x.1.has) (λ i. (sym b.1 i, sym b.0 i)) h.0

pub whole_of : (engine : EngineState) (after : List Seated) (end : PassState) (outs : List (List (ℕ × LineReceipt))) → length after ≡ 1 → AllByRecursion (IsOf engine) after → GaveBack after end outs → end.tables ≡ engine.tables
whole_of engine [] end outs one all back = absurd (omega (arith, one))
whole_of engine (e ∷ es) end outs one all back = ap (λ (p : PassState). p.tables) back.0 ∙ all.0

-- ---- several lanes

module _ (budget : ℕ) (sizes : Sizes) where
  pub called_length : (starts : List Pass) (lanes : List (List (ℕ × Call))) (outs : List (List (ℕ × LineReceipt))) (ends : List Pass) → AllCalled budget sizes starts lanes outs ends → length ends ≡ length lanes
  called_length [] [] [] [] h = refl
  called_length (s ∷ ss) (lane ∷ lanes) (out ∷ outs) (e ∷ es) h = ap suc (called_length ss lanes outs es h.1)
  called_length _ _ _ _ h = absurd h

  pub several_ran : (start rest end : Pass) (starts : List Pass) (lanes : List (List (ℕ × Call))) (outs : List (List (ℕ × LineReceipt))) (ends : List Pass) → length lanes ≢ 1 →
      AllSplit start starts rest → AllCalled budget sizes starts lanes outs ends → AllJoined rest ends end → LanesRan budget sizes start lanes outs end
  several_ran start rest end starts [] outs ends some split called joined = record { rest = rest; starts = starts; ends = ends; split = split; called = called; joined = joined }
  several_ran start rest end starts (lane ∷ []) outs ends some split called joined = absurd (some refl)
  several_ran start rest end starts (lane ∷ l ∷ lanes) outs ends some split called joined = record { rest = rest; starts = starts; ends = ends; split = split; called = called; joined = joined }
