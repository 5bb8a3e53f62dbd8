use Rattle.std.proofs.Common.{◌≡◌, ℕ, ◌+◌, ◌∷◌, ◌++◌, [], length, ap, ◌∙◌, arith, length-append}
use Rattle.shelf.specs.Room.{Room}
use Rattle.lanes.specs.Seats.{receipts_of}
use Rattle.lanes.proofs.ListLemmas.{spends_one}
use Rattle.lanes.proofs.StepLemmas.{lane_step}
use Rattle.lanes.proofs.lane.run_lane.Goals as goal

pub loop-place-preserved : goal.loop-place-preserved
loop-place-preserved g c =
    let i = c.loop-place.invariant in
    let m = c.make_next.ensures.made in
    let got : receipts_of c.make_next.new.seat ≡ receipts_of c.loop-place.seat ++ m.receipt ∷ [] = ap (λ (x : Room). x.receipts) m.put in
    let one = spends_one m.call.1 in
    let spent = m.called.left in
    let enough = i.left in
    record {
      of = m.of;
      left = omega (arith, enough, spent, one);
      room = ap (λ (x : Room). x.room) m.put ∙ i.room;
      count = ap length got ∙ length-append (receipts_of c.loop-place.seat) (m.receipt ∷ []) ∙ ap (λ (n : ℕ). n + 1) i.count;
      called = lane_step _ _ _ c.args.calls.now c.loop-place.place _ _ _ m.call m.receipt _ m.is got m.line m.called i.called;
    }
