-- A collector that lends one of its seats ends with what the borrower left of it.
use Rattle.std.specs.Borrow.{Lends, MutBor, Fml}
use Rattle.grace_rows.specs.Seats.{CollectState}
use Rattle.grace_rows.specs.contracts.collect_seat.CollectSeat as collect
use Rattle.total_rows.specs.Seats.{SeatState}
use Rattle.total_rows.specs.contracts.seat.TotalSeat as total
use Rattle.collector.specs.Collectors.{CollectorState}
use Rattle.collector.specs.contracts.collector.Collector as collector

abbrev pub LendsSeat : MutBor CollectorState → MutBor CollectState → Fml
LendsSeat lender r = Lends collector.the_row collect.the_row lender r (λ s. record { seat = s; apps = (lender.now).apps; phases = (lender.now).phases })

abbrev pub LendsApps : MutBor CollectorState → MutBor SeatState → Fml
LendsApps lender r = Lends collector.the_row total.the_row lender r (λ s. record { seat = (lender.now).seat; apps = s; phases = (lender.now).phases })
