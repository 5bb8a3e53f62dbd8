use Rattle.std.proofs.Common.{nat_eq, cond}
use Rattle.acct_base.specs.declared.packet.Dir.TheVariants.{Ingress}
use Rattle.total_rows.specs.declared.plan.Stage.TheVariants.{Idle, Reading}
use Rattle.total_rows.proofs.totals.Totals.read_row.Given as goal

abbrev pub ghosts-read_number : goal.ghosts-read_number
ghosts-read_number a = record { plan = record { rows = a.self.now.rows; calls = a.self.now.calls }; job = record { key = 0; dir = Ingress; packets = 0; bytes = 0 }; key = a.key; number = a.number; next = cond (nat_eq a.number 3) Idle (Reading a.key a.at.turn) }
