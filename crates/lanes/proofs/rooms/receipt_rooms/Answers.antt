use Rattle.std.proofs.Common.{◌≡◌, ℕ, List, ◌∷◌, ◌++◌, [], map, take, sym, ap, ◌∙◌}
use Rattle.acct_base.specs.Receipts.{Call}
use Rattle.lanes.specs.Seats.{room_for}
use Rattle.lanes.proofs.ListLemmas.{map_snoc, taken_more}
use Rattle.lanes.proofs.rooms.receipt_rooms.Goals as goal

pub loop-place-preserved : goal.loop-place-preserved
loop-place-preserved c =
    let lanes = c.args.lanes.now in
    let place = c.loop-place.place in
    let lane : List (ℕ × Call) = c.lane_at-lane.result in
    let room : c.in_ok-room.room ≡ room_for lane = c.in_ok-room.ensures ∙ ap (λ (n : ℕ). record { receipts = []; room = n }) c.len-in-loop-place.ensures in
    c.in_ok-push.ensures.items
    ∙ (λ i. c.loop-place.invariant i ++ room i ∷ [])
    ∙ sym (map_snoc room_for (take place lanes) lane)
    ∙ ap (map room_for) (sym (taken_more lanes place lane c.lane_at-lane.ensures))
