use Rattle.std.proofs.Common.{true, ◌+◌, Option, List, cond, length, sym, ap, subst, ◌∙◌, arith}
use Rattle.std.specs.Prelude.{is_some}
use Rattle.acct_base.specs.declared.amount.Amount.{Amount}
use Rattle.acct_plain.specs.Ledgers.{find, Adds}
use Rattle.acct_plain.proofs.Adding.{put_there}
use Rattle.acct_plain.proofs.ledger.Ledger.add_new.Goals as goal

pub returns-clause-ok : goal.returns-clause-ok
returns-clause-ok g c =
    let es = c.self.inside.entries.entries in
    subst (λ (xs : List (g.row.K.Denot × Amount)). Adds g.K.Ord.cmp xs c.insert.new.self.entries c.args.limit c.args.key c.args.more.now true) c.self.view_is
    (put_there g.K.Ord.cmp es c.insert.new.self.entries c.args.limit c.args.key c.args.more.now
    (sym (ap (λ (xs : List (g.row.K.Denot × Amount)). find g.K.Ord.cmp xs c.args.key) c.self.view_is ∙ c.requires.absent))
    (omega (arith, c.len.ensures.len, c.if-len-limit.false))
    (λ k. c.in_ok-insert.ensures.updates.0 k)
    (c.in_ok-insert.ensures.len ∙ ap (λ (r : Option Amount). length es + cond (is_some r) 0 1) c.in_ok-insert.ensures.old))
