use Rattle.std.proofs.Common.{rules}
use Rattle.reg_words.proofs.Keeps.{stores_front}
use Rattle.reg_words.proofs.words.Words.store_front.Goals as goal

pub store-requires : goal.store-requires
store-requires c = (search rules, search rules, stores_front _ _ _ _ _ (search rules) (search rules))
