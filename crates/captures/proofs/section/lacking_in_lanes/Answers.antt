use Rattle.std.proofs.Common.{sym}
use Rattle.captures.specs.Sections.{lent_packets}
use Rattle.captures.proofs.Lending.{lane_passed, lane_found}
use Rattle.captures.proofs.section.lacking_in_lanes.Goals as goal

pub loop-place-preserved : goal.loop-place-preserved
loop-place-preserved c =
    lane_passed (lent_packets c.args.capture) c.args.lanes.now c.loop-place.place c.lacking_in_lane-found.result c.lacking_in_lane-found.ensures (sym c.if-is_some.ensures) c.loop-place.invariant

pub returns-then-is_some : goal.returns-then-is_some
returns-then-is_some c =
    lane_found (lent_packets c.args.capture) c.args.lanes.now c.loop-place.place c.lacking_in_lane-found.result c.lacking_in_lane-found.ensures (sym c.if-is_some.ensures) c.loop-place.invariant
