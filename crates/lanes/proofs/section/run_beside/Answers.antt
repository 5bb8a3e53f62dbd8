use Rattle.std.proofs.Common.{rules, ◌≡◌, ℕ, List, sym, ap, ◌∙◌, subst, arith}
use Rattle.std.specs.Prelude.{slice_get, Some}
use Rattle.acct_base.specs.Receipts.{Call}
use Rattle.desk_core.specs.declared.command.Command.{Command}
use Rattle.captures.specs.Lent.{section_calls}
use Rattle.lanes.specs.declared.lane.Seated.{Seated}
use Rattle.lanes.specs.Between.{DidObey}
use Rattle.lanes.specs.Seats.{IsReadyFor, LaneRan}
use Rattle.lanes.proofs.ListLemmas.{zip_length, zip_at, at_here, or_at, is_within}
use Rattle.lanes.proofs.StepLemmas.{all_called}
use Rattle.lanes.proofs.section.run_beside.Goals as goal

pub run_sides-requires-clause-accepts : goal.run_sides-requires-clause-accepts
run_sides-requires-clause-accepts g c κs within = λ i p inside is.
    let seats : List Seated = c.args.seats.items in
    let lanes = c.args.calls.now.lanes in
    let ready = c.requires.may.ready in
    let long = zip_length (IsReadyFor c.args.engine.now) lanes seats ready in
    let there : slice_get seats i ≡ Some p.now = at_here seats i p.now inside ∙ ap (λ (s : Seated). Some s) (sym is) in (
      (omega (arith, long, inside), λ lane at. zip_at (IsReadyFor c.args.engine.now) lanes seats i lane p.now ready at there),
      search rules,
    )

-- what the closure ensures of the call at a place, of the seat there before and after
pub returns : goal.returns
returns g c =
    let engine = c.args.engine.now in
    let lanes = c.args.calls.now.lanes in
    let seats : List Seated = c.args.seats.items in
    let after : List Seated = c.run_sides.result.0.items in
    let each : (i : ℕ) (lane : List (ℕ × Call)) (s e : Seated) → slice_get lanes i ≡ Some lane → slice_get seats i ≡ Some s → slice_get after i ≡ Some e → LaneRan engine lane s e = λ i lane s e lane_at at_s at_e.
    let t = (c.run_sides.ensures.changes i s (is_within seats i s at_s)).1 in
    subst (λ (x : Seated × Seated). LaneRan engine lane x.0 x.1) (λ k. ((t.argument_is ∙ or_at seats i s s at_s) k, (t.left ∙ or_at after i e s at_e) k)) (t.call lane lane_at) in
    let facts = all_called engine lanes seats after (zip_length (IsReadyFor engine) lanes seats c.requires.may.ready) (c.run_sides.ensures.count, each) in
    let asked : List (ℕ × Command) = (section_calls c.args.calls.now).desk in
    let desk : DidObey engine asked c.args.control c.run_sides.result.1.0 c.run_sides.result.1.1 =
    subst (λ (ls : List (ℕ × Command)). DidObey engine ls c.args.control c.run_sides.result.1.0 c.run_sides.result.1.1) c.desk_lines-lines.ensures c.run_sides.ensures.obeyed in
    record {
      did = record {
        called = facts.0;
        seats_of = facts.1;
        of = desk.0;
        level = desk.1;
        keeps = desk.2;
        answers = desk.3;
      };
    }
