use Rattle.std.proofs.Common.{◌≡◌, ◌-◌}
use Rattle.total_rows.specs.declared.plan.Stage.TheVariants.{Idle}
use Rattle.total_rows.specs.Plays.{Trying, begun}
use Rattle.total_rows.specs.Rows.{IsTry}
use Rattle.total_rows.specs.Rule.{calls}
use Rattle.total_rows.specs.SeatSteps.{IsSameSeat}
use Rattle.total_rows.proofs.totals.Totals.add_job.Given as goal

abbrev pub invariant-loop-self : goal.invariant-loop-self
invariant-loop-self l = record {
  try : IsTry l.self.rows l.job.key l.at;
  same : IsSameSeat l.initial.seat l.seat;
  going : record (begun l.seat.me.0 l.seat.me.0.stage) { stage = Idle } ≡ begun l.initial.seat.me.0 Idle;
  counts : calls l.seat.me.0 ≡ calls l.initial.seat.me.0;
  adds : l.seat.me.0.adds ≡ l.initial.seat.me.0.adds;
  trying : Trying l.self.rows l.job.key l.at.turn l.seat.me.0;
}

abbrev pub decreases-loop-self : goal.decreases-loop-self
decreases-loop-self l = l.self.rows - l.at.turn

abbrev pub ghosts-add_packets : goal.ghosts-add_packets
ghosts-add_packets a = record { plan = record { rows = a.self.now.rows; calls = a.self.now.calls }; job = a.job; key = 0; number = a.at.turn; next = Idle }

abbrev pub ghosts-add_bytes : goal.ghosts-add_bytes
ghosts-add_bytes a = record { plan = record { rows = a.self.now.rows; calls = a.self.now.calls }; job = a.job; key = 0; number = a.at.row; next = Idle }
