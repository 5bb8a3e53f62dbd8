use Rattle.std.proofs.Common.{◌≡◌, ◌++◌, take}
use Rattle.desk_regs.proofs.writing.write_all.Given as goal

abbrev pub invariant-loop-write : goal.invariant-loop-write
invariant-loop-write l = l.writer ≡ record l.fn.writer { journal = (l.fn.writer).journal ++ take l.write-index l.writes }
