-- How large the tables can be.
use Rattle.std.specs.Prelude.{ℕ}
use Rattle.table_costs.specs.declared.plan.Subject.{Subject}
use Rattle.table_costs.specs.declared.plan.Subject.TheVariants.{Charges, Reads, Adds, Hooks, Nothing}

-- The most rows that a subject's table can have.
abbrev pub most_rows : Subject → ℕ
most_rows Charges = 5000
most_rows Reads = 262144
most_rows Adds = 65536
most_rows Hooks = 5000
most_rows Nothing = 262144
