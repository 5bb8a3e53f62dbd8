use Rattle.std.proofs.Common.{rules}
use Rattle.reg_words.proofs.Keeps.{splits, live_writer, joins_reader}
use Rattle.reg_words.proofs.regs.Regs.meet.Goals as goal

pub split_seat-note-requires : goal.split_seat-note-requires
split_seat-note-requires c = (search rules, search rules, splits _ _ _ (live_writer _ (search rules)))

pub join_seat-requires : goal.join_seat-requires
join_seat-requires c = (search rules, search rules, search rules, search rules, joins_reader _ _ _ _ _ (search rules) (search rules))
