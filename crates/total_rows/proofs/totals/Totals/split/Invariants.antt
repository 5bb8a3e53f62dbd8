use Rattle.acct_base.specs.declared.packet.Dir.TheVariants.{Ingress}
use Rattle.total_rows.specs.declared.plan.Stage.TheVariants.{Idle}
use Rattle.total_rows.proofs.totals.Totals.split.Given as goal

abbrev pub ghosts-cut : goal.ghosts-cut
ghosts-cut a = record { plan = record { rows = a.self.now.rows; calls = a.self.now.calls }; job = record { key = 0; dir = Ingress; packets = 0; bytes = 0 }; key = 0; number = a.n; next = Idle }

abbrev pub ghosts-settle : goal.ghosts-settle
ghosts-settle a = record { plan = record { rows = a.self.now.rows; calls = a.self.now.calls }; job = record { key = 0; dir = Ingress; packets = 0; bytes = 0 }; key = 0; number = 0; next = Idle }
