use Rattle.std.proofs.Common.{rules, arith}
use Rattle.reg_words.proofs.Keeps.{joins_reader, settles_reader}
use Rattle.reg_words.proofs.words.Words.join_readers.Goals as goal

pub join_seat-requires : goal.join_seat-requires
join_seat-requires c = (search rules, search rules, search rules, search rules, joins_reader _ _ _ _ _ (search rules) (search rules))

pub load-requires : goal.load-requires
load-requires c = (search rules, search rules, settles_reader _ _ _ _ 1 (λ e. absurd (omega (arith, e))) (search rules))
