use Rattle.std.proofs.Common.{ℕ, List, sym, subst}
use Rattle.std.proofs.lemmas.Fmt.{decimal_digit}
use Rattle.dump_text.specs.Pages.{Puts}
use Rattle.dump_text.proofs.page.Page.short_digits.Goals as goal

pub returns-then-number-lt10 : goal.returns-then-number-lt10
returns-then-number-lt10 g c =
    subst (λ (text : List ℕ). Puts {K = g.row.K.Denot} g.K.Sink.written g.K.Sink.faults c.args.self.now c.put_byte.new.self text)
    (sym (decimal_digit c.args.number c.if-number-lt10.true)) c.put_byte.ensures
