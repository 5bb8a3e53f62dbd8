use Rattle.std.proofs.Common.{rules, ◌≡◌, ℕ, ◌+◌, List, ◌++◌, ◌∷◌, [], length, map, take, refl, sym, ap, ◌∙◌, subst, arith, append_assoc, length-append}
use Rattle.std.specs.Prelude.{slice_get, Some, Option, unwrap_or}
use Rattle.std.specs.List.{AllZip}
use Rattle.std.specs.Vec.Iter.{into_iter_items}
use Rattle.acct_base.specs.Receipts.{Call}
use Rattle.shelf.specs.Room.{Room}
use Rattle.hook_engine.specs.Passes.{Pass}
use Rattle.hook_engine.specs.Tables.{PassState}
use Rattle.lanes.specs.declared.lane.Seated.{Seated}
use Rattle.lanes.specs.Lanes.{AllSplit, AreCallsInRange, calls_made}
use Rattle.lanes.specs.Seats.{IsReadyFor, pass_of, room_for}
use Rattle.lanes.proofs.ListLemmas.{all_at, map_snoc, mapped_at, item_next, taken_more, made_more, made_within, zip_snoc}
use Rattle.lanes.proofs.StepLemmas.{split_more}
use Rattle.lanes.proofs.seating.seat_each.Goals as goal

pub loop-room-init : goal.loop-room-init
loop-room-init c = record {
  parts = c.into_iter-room-iterator.ensures.into_iter_gives.0;
  lens = let a = c.into_iter-room-iterator.ensures.into_iter_gives.1 in let b = ap length c.into_iter-room-iterator.ensures.into_iter_gives.0 in search rules;
  from = c.requires.from;
  left = omega arith;
  space = c.requires.seats.1;
  count = ap length c.requires.seats.0;
  split = subst (λ (xs : List Seated). AllSplit c.args.pass.now.has (map pass_of xs) c.args.pass.now.has) (sym c.requires.seats.0) refl;
  ready = subst (λ (xs : List Seated). AllZip (IsReadyFor c.args.engine.now) [] xs) (sym c.requires.seats.0) tt;
}

-- what is known at a turn: the lane at the place, and that the room is made for it
record Turn (lanes : List (List (ℕ × Call))) (k : ℕ) (lane : List (ℕ × Call)) (room : Room) : Type 0 where
  at : slice_get lanes k ≡ Some lane
  is : room ≡ room_for lane

turn_of : (lanes : List (List (ℕ × Call))) (rooms yielded rest : List Room) (room : Room) (lane : List (ℕ × Call)) (k : ℕ) → rooms ≡ map room_for lanes → yielded ++ (room ∷ rest) ≡ rooms → k ≡ length yielded →
    slice_get lanes k ≡ Some lane → Turn lanes (length yielded) lane room
turn_of lanes rooms yielded rest room lane k are parts count at =
    let there : slice_get lanes (length yielded) ≡ Some lane = subst (λ (n : ℕ). slice_get lanes n ≡ Some lane) count at in
    let item : slice_get (map room_for lanes) (length yielded) ≡ Some room = subst (λ (rs : List Room). slice_get rs (length yielded) ≡ Some room) are (item_next yielded rest rooms room parts) in
    let found = mapped_at room_for lanes (length yielded) room item in
    let same : found.0 ≡ lane = ap (λ (o : Option (List (ℕ × Call))). unwrap_or o lane) (sym found.1 ∙ there) in
    record { at = there; is = sym found.2 ∙ ap room_for same }

pub split-other-requires-clause-calls : goal.split-other-requires-clause-calls
split-other-requires-clause-calls c =
    let at = c.loop-room in
    let lanes = c.args.lanes.now in
    let lane : List (ℕ × Call) = c.lane_at-lane.result in
    let count : c.len.result ≡ length at.yielded = search rules in
    let there : slice_get lanes (length at.yielded) ≡ Some lane = subst (λ (n : ℕ). slice_get lanes n ≡ Some lane) count c.lane_at-lane.ensures in
    let within = made_within lanes (length at.yielded) lane there in
    let left = at.invariant.left in
    let enough = c.requires.calls in
    let n = c.len-in-loop-room.ensures in
    omega (arith, within, left, enough, n)

pub loop-room-preserved : goal.loop-room-preserved
loop-room-preserved c =
    let at = c.loop-room in
    let i = at.invariant in
    let engine = c.args.engine.now in
    let lanes = c.args.lanes.now in
    let first : Pass = c.args.pass.now.has in
    let room : Room = c.in-Some.room in
    let lane : List (ℕ × Call) = c.lane_at-lane.result in
    let k : ℕ = length at.yielded in
    let rest : List Room = into_iter_items c.next.new.self in
    let steps : into_iter_items at.room-iterator ≡ room ∷ rest = c.in-Some.ensures.steps.0 in
    let parts : at.yielded ++ (room ∷ rest) ≡ c.args.receipts.items = rw (← steps) i.parts in
    let turn = turn_of lanes c.args.receipts.items at.yielded rest room lane c.len.result c.requires.receipts parts (search rules) c.lane_at-lane.ensures in
    let n = c.len-in-loop-room.ensures in
    let s = c.split-other.ensures in
    let seat : Seated = record { pass = c.split-other.result; receipts = room } in
    let long : length (at.yielded ++ room ∷ []) ≡ k + 1 = length-append at.yielded (room ∷ []) in
    let taken : take (length (at.yielded ++ room ∷ [])) lanes ≡ take k lanes ++ lane ∷ [] = ap (λ (m : ℕ). take m lanes) long ∙ taken_more lanes k lane turn.at in
    let made : calls_made (take (length (at.yielded ++ room ∷ [])) lanes) ≡ calls_made (take k lanes) + length lane = ap calls_made taken ∙ made_more (take k lanes) lane in
    let put = c.push_reserved.ensures.items in
    let given : c.split-other.result.has.left ≡ c.len-in-loop-room.result = ap (λ (p : Pass). p.left) s.split.other_is in
    let ready : IsReadyFor engine lane seat = record {
      of = ap (λ (p : PassState). p.tables) s.other;
      range = all_at AreCallsInRange lanes k lane c.requires.range turn.at;
      calls = omega (arith, given, n);
      room = turn.is;
    } in
    let kept = s.split.left in
    let before = i.left in
    record {
      parts = append_assoc at.yielded (room ∷ []) _ ∙ parts;
      lens = let a = ap length steps in let b = c.in-Some.ensures.steps.1 in let d = i.lens in omega arith;
      from = ap (λ (p : PassState). p.tables) s.first ∙ i.from;
      left = omega (arith, kept, before, made, n);
      space = search rules;
      count = ap length put ∙ length-append at.seats.items (seat ∷ []) ∙ ap (λ (m : ℕ). m + 1) i.count ∙ sym long;
      split = subst (λ (ps : List Pass). AllSplit first ps c.split-other.new.pass.has) (sym (ap (map pass_of) put ∙ map_snoc pass_of at.seats.items seat))
          (split_more first (map pass_of at.seats.items) _ _ (pass_of seat) _ i.split s.split);
      ready = subst (λ (z : List (List (ℕ × Call)) × List Seated). AllZip (IsReadyFor engine) z.0 z.1) (λ j. (sym taken j, sym put j))
          (zip_snoc (IsReadyFor engine) (take k lanes) at.seats.items lane seat i.ready ready);
    }
