use Rattle.std.proofs.Common.{rules}
use Rattle.reg_words.proofs.Keeps.{stores_register_at}
use Rattle.reg_words.proofs.words.Words.store_register.Goals as goal

pub store-requires : goal.store-requires
store-requires g c = (search rules, search rules, stores_register_at _ _ _ _ _ c.args.key _ c.args.turn _ (search rules) (search rules) c.requires.value (search rules) (search rules) (search rules) (search rules))
