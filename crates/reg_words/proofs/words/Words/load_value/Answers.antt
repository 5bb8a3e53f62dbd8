use Rattle.std.proofs.Common.{rules}
use Rattle.reg_words.proofs.Prefixes.{holder}
use Rattle.reg_words.proofs.Keeps.{loads_value_at}
use Rattle.reg_words.proofs.words.Words.load_value.Goals as goal

pub load-requires : goal.load-requires
load-requires g c = let h = holder c.args.seat.now.me.0.list c.args.key c.args.version c.requires.last c.requires.value in let p = h.some_write in
    (search rules, search rules, loads_value_at _ _ _ _ _ c.args.version _ c.args.key _ h.write h.value c.requires.reads (search rules) h.at h.of h.is (search rules) (search rules) (search rules))
