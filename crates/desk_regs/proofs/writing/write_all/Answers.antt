use Rattle.std.proofs.Common.{◌≡◌, ◌+◌, ◌++◌, ◌∷◌, [], take, sym, subst, ap, ◌∙◌, List, rules}
use Rattle.std.proofs.lemmas.List.{take_more, append_assoc}
use Rattle.acct_base.specs.declared.register.Write.{Write}
use Rattle.acct_base.specs.Registers.{KeepsLimits}
use Rattle.desk_core.proofs.ValueLemmas.{within-taken_front}
use Rattle.desk_regs.proofs.RoomLemmas.{one_more, wrote_more}
use Rattle.desk_regs.proofs.writing.write_all.Goals as goal

pub write_one-requires-clause-from : goal.write_one-requires-clause-from
write_one-requires-clause-from c = rw c.loop-write.invariant c.requires.from

pub write_one-requires-clause-room : goal.write_one-requires-clause-room
write_one-requires-clause-room c =
    rw c.loop-write.invariant
    (subst (KeepsLimits c.args.writer.now.origin.limits) (one_more c.args.writer.now.journal c.args.writes.now c.loop-write.write-index _ c.loop-write-test.true)
    (within-taken_front c.args.writer.now.origin.limits c.args.writer.now.journal c.args.writes.now (c.loop-write.write-index + 1) c.requires.room))

pub loop-write-preserved : goal.loop-write-preserved
loop-write-preserved c =
    wrote_more c.args.writer.now c.loop-write.writer c.write_one.new.writer c.args.writes.now c.loop-write.write-index _ c.loop-write-test.true
    c.loop-write.invariant c.write_one.ensures
