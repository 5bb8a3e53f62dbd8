use Rattle.std.proofs.Common.{subst}
use Rattle.std.specs.List.{AllByRecursion}
use Rattle.acct_base.specs.Registers.{IsWellFormed}
use Rattle.desk_core.specs.Book.{BookView}
use Rattle.desk_regs.proofs.RoomLemmas.{all_behind}
use Rattle.desk_regs.proofs.desk.Desk.enact.Goals as goal

pub write_all-requires-clause-formed : goal.write_all-requires-clause-formed
write_all-requires-clause-formed c =
    rw c.as_slice.ensures
    (all_behind IsWellFormed c.self.inside.book.journal c.args.decision.now.writes
    (subst (λ (b : BookView). AllByRecursion IsWellFormed b.journal) c.in_ok-take.ensures.ok c.take.ensures.formed))
