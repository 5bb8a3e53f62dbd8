use Rattle.std.proofs.Common.{◌≡◌, ℕ, ◌≤◌, List, length, map, sym, subst, ◌∙◌}
use Rattle.std.specs.Prelude.{vec_capacity}
use Rattle.acct_base.specs.declared.receipt.LineReceipt.{LineReceipt}
use Rattle.lanes.specs.declared.lane.Seated.{Seated}
use Rattle.lanes.specs.Lanes.{LanesRan}
use Rattle.lanes.specs.Seats.{pass_of, receipts_of}
use Rattle.lanes.proofs.ListLemmas.{mapped_length}
use Rattle.lanes.proofs.SeatLemmas.{called_length, several_ran}
use Rattle.lanes.proofs.section.run_several.Goals as goal

pub gather-lanes-requires-clause-lanes : goal.gather-lanes-requires-clause-lanes
gather-lanes-requires-clause-lanes g c =
    let after : List Seated = c.run_beside-seats.result.0.items in
    let long = called_length c.args.engine.now.sizes.calls c.args.engine.now.sizes _ c.args.calls.now.lanes (map receipts_of after) (map pass_of after) c.run_beside-seats.ensures.did.called in
    let same : length after ≡ length c.args.calls.now.lanes = sym (mapped_length pass_of after) ∙ long in
    let room = c.requires.rooms.lanes in
    (room.0, subst (λ (n : ℕ). n ≤ vec_capacity c.args.rooms.lanes) (sym same) room.1)

pub returns : goal.returns
returns g c =
    let engine = c.args.engine.now in
    let lanes = c.args.calls.now.lanes in
    let d = c.run_beside-seats.ensures.did in
    let after : List Seated = c.run_beside-seats.result.0.items in
    let o = c.gather-lanes.ensures in
    record {
      did = record {
        from = o.from;
        lanes = subst (λ (outs : List (List (ℕ × LineReceipt))). LanesRan engine.sizes.calls engine.sizes c.args.pass.has lanes outs c.gather-lanes.new.pass.has) (sym o.receipts)
            (several_ran engine.sizes.calls engine.sizes c.args.pass.has c.seat_each-seats.new.pass.has c.gather-lanes.new.pass.has (map pass_of c.seat_each-seats.result.items) lanes (map receipts_of after) (map pass_of after)
            c.requires.several c.seat_each-seats.ensures.split d.called o.joined);
        of = d.of;
        level = d.level;
        keeps = d.keeps;
        replies = d.answers;
      };
    }
