use Rattle.std.proofs.Common.{rules, arith}
use Rattle.reg_words.proofs.Keeps.{splits, live, joins_writer, settles_writer}
use Rattle.reg_words.proofs.words.Words.tell.Goals as goal

pub split_seat-note-requires : goal.split_seat-note-requires
split_seat-note-requires c = (search rules, search rules, splits _ _ _ (live _ (search rules)))

pub join_seat-requires : goal.join_seat-requires
join_seat-requires c = (search rules, search rules, search rules, search rules, joins_writer _ _ _ _ _ (search rules) (search rules))

pub load-requires : goal.load-requires
load-requires c = (search rules, search rules, settles_writer _ _ _ _ 1 (λ e. absurd (omega (arith, e))) (search rules))
