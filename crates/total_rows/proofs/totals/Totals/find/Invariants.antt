use Rattle.std.proofs.Common.{◌≡◌, ◌-◌}
use Rattle.acct_base.specs.declared.packet.Dir.TheVariants.{Ingress}
use Rattle.total_rows.specs.declared.plan.Stage.TheVariants.{Idle}
use Rattle.total_rows.specs.Plays.{Seeking}
use Rattle.total_rows.specs.Rows.{IsTry}
use Rattle.total_rows.specs.SeatSteps.{IsSameSeat}
use Rattle.total_rows.proofs.totals.Totals.find.Given as goal

abbrev pub invariant-loop-self : goal.invariant-loop-self
invariant-loop-self l = record {
  try : IsTry l.self.rows l.key l.at;
  same : IsSameSeat l.initial.seat l.seat;
  going : record l.seat.me.0 { stage = Idle } ≡ l.initial.seat.me.0;
  seeking : Seeking l.self.rows l.key l.at.turn l.seat.me.0;
}

abbrev pub decreases-loop-self : goal.decreases-loop-self
decreases-loop-self l = l.self.rows - l.at.turn

abbrev pub ghosts-look_at_row : goal.ghosts-look_at_row
ghosts-look_at_row a = record { plan = record { rows = a.self.now.rows; calls = a.self.now.calls }; job = record { key = 0; dir = Ingress; packets = 0; bytes = 0 }; key = a.key; number = a.at.turn; next = Idle }
