use Rattle.std.proofs.Common.{List, map, sym, ◌∙◌}
use Rattle.captures.specs.Lent.{section_calls}
use Rattle.lanes.specs.declared.lane.Seated.{Seated}
use Rattle.lanes.specs.Between.{MayRun}
use Rattle.lanes.specs.Seats.{pass_of, receipts_of}
use Rattle.lanes.proofs.ListLemmas.{mapped_length}
use Rattle.lanes.proofs.SeatLemmas.{whole_ready, whole_ran, whole_of, called_length}
use Rattle.lanes.proofs.section.run_one.Goals as goal

pub run_beside-seats-requires-clause-may : goal.run_beside-seats-requires-clause-may
run_beside-seats-requires-clause-may g c κs within =
    let m = c.requires.may in
    let may : MayRun c.args.engine.now (section_calls c.args.calls.now) c.seat_one-seats.result.items c.args.control = record {
      ready = whole_ready c.args.engine.now c.args.pass c.args.calls.now.lanes c.args.rooms.receipts.items c.seat_one-seats.result.items c.requires.one c.requires.rooms.receipts c.seat_one-seats.ensures m.from m.lanes m.enough;
      of = m.of;
      level = m.level;
      commands = m.commands;
      phases = m.phases;
    } in
    may

pub unseat_one-pass-requires-clause-seats : goal.unseat_one-pass-requires-clause-seats
unseat_one-pass-requires-clause-seats g c =
    let after : List Seated = c.run_beside-seats.result.0.items in
    let long = called_length c.args.engine.now.sizes.calls c.args.engine.now.sizes _ c.args.calls.now.lanes (map receipts_of after) (map pass_of after) c.run_beside-seats.ensures.did.called in
    sym (mapped_length pass_of after) ∙ long ∙ c.requires.one

pub returns : goal.returns
returns g c =
    let engine = c.args.engine.now in
    let lanes = c.args.calls.now.lanes in
    let d = c.run_beside-seats.ensures.did in
    let after : List Seated = c.run_beside-seats.result.0.items in
    let long = called_length engine.sizes.calls engine.sizes _ lanes (map receipts_of after) (map pass_of after) d.called in
    record {
      did = record {
        from = whole_of engine after c.unseat_one-pass.result.0 c.unseat_one-pass.result.1.items (sym (mapped_length pass_of after) ∙ long ∙ c.requires.one) d.seats_of c.unseat_one-pass.ensures;
        lanes = whole_ran engine c.args.pass lanes c.args.rooms.receipts.items c.seat_one-seats.result.items after c.unseat_one-pass.result.0 c.unseat_one-pass.result.1.items c.requires.one c.requires.rooms.receipts
            c.seat_one-seats.ensures d.called c.unseat_one-pass.ensures;
        of = d.of;
        level = d.level;
        keeps = d.keeps;
        replies = d.answers;
      };
    }
