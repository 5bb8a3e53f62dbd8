use Rattle.std.proofs.Common.{◌≡◌, ◌∙◌, ap, sym, subst}
use Rattle.std.specs.Prelude.{IfSome}
use Rattle.acct_base.specs.declared.register.Seen.{Seen}
use Rattle.acct_base.specs.Registers.{IsValueOf}
use Rattle.desk_core.specs.Registers.{seen_now}
use Rattle.desk_core.proofs.FormLemmas.{current_formed, seen_unnamed}
use Rattle.desk_core.proofs.book.Book.read.Goals as goal

pub returns-clause-value : goal.returns-clause-value
returns-clause-value c =
    let seen : c.read.result ≡ seen_now c.self.inside.journal.items c.args.key = c.read.ensures ∙ c.self.invariant.latest.seen c.args.key in
    subst (λ (s : Seen). IfSome s.value (IsValueOf c.args.key)) (sym seen) (current_formed c.args.key c.self.inside.journal.items c.self.invariant.formed)

pub returns-clause-no_socket : goal.returns-clause-no_socket
returns-clause-no_socket c e =
    let seen : c.read.result ≡ seen_now c.self.inside.journal.items c.args.key = c.read.ensures ∙ c.self.invariant.latest.seen c.args.key in
    seen ∙ ap (seen_now c.self.inside.journal.items) e ∙ seen_unnamed c.self.inside.journal.items c.self.invariant.formed
