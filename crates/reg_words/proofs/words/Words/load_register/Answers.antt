use Rattle.std.proofs.Common.{rules}
use Rattle.reg_words.proofs.Keeps.{loads_register_at}
use Rattle.reg_words.proofs.words.Words.load_register.Goals as goal

pub load-requires : goal.load-requires
load-requires g c = (search rules, search rules, loads_register_at _ _ _ _ _ c.args.key _ c.args.at.turn (search rules) (search rules) (search rules) (search rules))
