use Rattle.desk_regs.proofs.RoomLemmas.{not_refused, writable}
use Rattle.desk_regs.proofs.writing.write_one.Goals as goal

pub unreachable-requires : goal.unreachable-requires
unreachable-requires c =
    not_refused c.args.writer.now.origin.limits c.args.writer.now.journal c.args.write.now c.write.result c.in-Err.field-0 c.in-Err.is c.requires.room
    (λ e. c.write.ensures.spent.0 e) (λ e. (c.write.ensures.full.0 e).0)
