use Rattle.lanes.proofs.section.fn.run_beside.each.Goals as goal

pub run_lane-requires-clause-ready : goal.run_lane-requires-clause-ready
run_lane-requires-clause-ready g c κs within = c.requires.1 c.lane_at.result c.lane_at.ensures
