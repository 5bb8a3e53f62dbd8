use Rattle.total_rows.specs.declared.plan.Stage.TheVariants.{Idle}
use Rattle.total_rows.proofs.totals.Totals.try_row.Given as goal

abbrev pub ghosts-peek_at_row : goal.ghosts-peek_at_row
ghosts-peek_at_row a = record { plan = record { rows = a.self.now.rows; calls = a.self.now.calls }; job = a.job; key = 0; number = a.at.turn; next = Idle }

abbrev pub ghosts-claim_row : goal.ghosts-claim_row
ghosts-claim_row a = record { plan = record { rows = a.self.now.rows; calls = a.self.now.calls }; job = a.job; key = 0; number = a.at.turn; next = Idle }
