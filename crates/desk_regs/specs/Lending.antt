-- A desk that lends its writer ends with what the borrower left of it.
use Rattle.std.specs.Borrow.{Lends, MutBor, Fml}
use Rattle.reg_words.specs.Seats.{WriterState}
use Rattle.reg_words.specs.contracts.writer.Writer as writer
use Rattle.desk_regs.specs.Desks.{DeskState}
use Rattle.desk_regs.specs.contracts.desk.Desk as desk

abbrev pub LendsWriter : MutBor DeskState → MutBor WriterState → Fml
LendsWriter lender r = Lends desk.the_row writer.the_row lender r (λ w. record { writer = w; book = (lender.now).book })
