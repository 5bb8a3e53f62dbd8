-- How the totals show what they have.
use Rattle.std.specs.Prelude.{◌≡◌, ◌+◌, ◌*◌, ◌≤◌, ◌^◌}
use Rattle.total_rows.specs.declared.totals.Totals.TheInside.{Inside}
use Rattle.total_rows.specs.Seats.{TotalsState}

-- The table, and its plan.
abbrev pub totals_state : Inside → TotalsState
totals_state t = record { table = t.table.shared.table_id; rows = t.plan.rows; calls = t.plan.calls }

-- The table has the words of its plan, and no slots, and its rows are counted beside it.
pub record IsTotals (t : Inside) : Type 0 where
  pub keyed : t.table.shared.key ≡ t.plan
  pub counted : t.rows ≡ t.plan.rows
  pub wide : t.table.shared.table_id.words ≡ t.plan.rows + 4 * t.plan.rows
  pub slotless : t.table.shared.table_id.slots ≡ 0
  pub some : 1 ≤ t.plan.rows
  pub few : t.plan.rows ≤ 65536
  pub small : t.plan.calls ≤ 2 ^ 28
