use Rattle.std.proofs.Common.{rules}
use Rattle.reg_words.proofs.Keeps.{loads_key_at}
use Rattle.reg_words.proofs.words.Words.load_key.Goals as goal

pub load-requires : goal.load-requires
load-requires g c = (search rules, search rules, loads_key_at _ _ _ _ _ c.args.key _ c.args.at.turn _ (search rules) (search rules) (search rules) (search rules) (search rules) (search rules) (search rules))
