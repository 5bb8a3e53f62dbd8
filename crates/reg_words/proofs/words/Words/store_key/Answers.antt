use Rattle.std.proofs.Common.{rules}
use Rattle.reg_words.proofs.Keeps.{stores_key_at}
use Rattle.reg_words.proofs.words.Words.store_key.Goals as goal

pub store-requires : goal.store-requires
store-requires c = (search rules, search rules, stores_key_at _ _ _ _ _ _ c.args.key c.args.turn (search rules) (search rules) (search rules) (search rules) (search rules) (search rules) (search rules))
