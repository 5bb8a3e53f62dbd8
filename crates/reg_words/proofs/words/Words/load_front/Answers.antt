use Rattle.std.proofs.Common.{rules}
use Rattle.reg_words.proofs.Keeps.{loads_front}
use Rattle.reg_words.proofs.words.Words.load_front.Goals as goal

pub load-requires : goal.load-requires
load-requires c = (search rules, search rules, loads_front _ _ _ _ (search rules))
