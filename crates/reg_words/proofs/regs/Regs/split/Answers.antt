use Rattle.std.proofs.Common.{rules}
use Rattle.reg_words.proofs.Keeps.{splits, live}
use Rattle.reg_words.proofs.regs.Regs.split.Goals as goal

pub split_seat-seat-requires : goal.split_seat-seat-requires
split_seat-seat-requires c = (search rules, search rules, splits _ _ _ (live _ (search rules)))
