-- An add as the table keeps it, and as contracts see it.
use Rattle.std.specs.Prelude.{ℕ, List}
use Rattle.std.specs.List.{flat_map}
use Rattle.acct_base.specs.Landings.{is_row}
use Rattle.acct_base.specs.Receipts.{Add}
use Rattle.total_rows.specs.declared.plan.Addition.{Addition}
use Rattle.total_rows.specs.Seats.{placed}

abbrev pub shown : Addition → Add
shown a = record { key = a.job.key; dir = a.job.dir; packets = a.job.packets; bytes = a.job.bytes; landed = is_row a.landed }

-- The key and the row of each add that landed, in order.
abbrev pub places_of : List Addition → List (ℕ × ℕ)
places_of adds = flat_map (λ (a : Addition). placed a.job.key a.landed) adds
