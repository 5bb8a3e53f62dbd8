use Rattle.std.proofs.Common.{rules}
use Rattle.reg_words.proofs.Keeps.{stores_value}
use Rattle.reg_words.proofs.words.Words.store_value.Goals as goal

pub store-requires : goal.store-requires
store-requires c = (search rules, search rules, stores_value _ _ _ _ _ _ (search rules) (search rules) (search rules))
