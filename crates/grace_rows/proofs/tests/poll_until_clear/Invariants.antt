use Rattle.std.proofs.Common.{◌≡◌, false}
use Rattle.grace_rows.specs.Seats.{is_clear}
use Rattle.grace_rows.proofs.tests.poll_until_clear.Given as goal

abbrev pub invariant-loop : goal.invariant-loop
invariant-loop l = (l.flipped.table ≡ l.fn.flipped.table) × (l.flipped.table ≡ l.paired.table) × (is_clear l.flipped ≡ false)
