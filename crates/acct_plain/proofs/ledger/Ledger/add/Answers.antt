use Rattle.std.proofs.Common.{true, Option, List, cond, sym, ap, subst, ◌∙◌}
use Rattle.std.specs.Prelude.{Some, unwrap_or}
use Rattle.std.specs.Ordering.{is_eq}
use Rattle.acct_base.specs.declared.amount.Amount.{Amount}
use Rattle.acct_base.specs.Amounts.{zero_amount, plus, HasRoom}
use Rattle.acct_plain.specs.Ledgers.{find, Adds}
use Rattle.acct_plain.proofs.Adding.{added_there}
use Rattle.acct_plain.proofs.ledger.Ledger.add.Goals as goal

pub plus-requires : goal.plus-requires
plus-requires g c = record {
  room = subst (λ (o : Option Amount). HasRoom (plus (unwrap_or o zero_amount) c.args.more.now))
      (sym (c.in-Some.ensures.value ∙ ap (λ (xs : List (g.row.K.Denot × Amount)). find g.K.Ord.cmp xs c.args.key) c.self.view_is)) c.requires.room;
}

pub returns-in-Some-clause-ok : goal.returns-in-Some-clause-ok
returns-in-Some-clause-ok g c =
    let es = c.self.inside.entries.entries in
    let new = (c.get_mut.follows.lender c.plus.result).entries in
    let wrote = c.get_mut.follows.holds c.plus.result in
    subst (λ (xs : List (g.row.K.Denot × Amount)). Adds g.K.Ord.cmp xs new c.args.limit c.args.key c.args.more.now true) c.self.view_is
    (added_there g.K.Ord.cmp es new c.args.limit c.args.key c.args.more.now c.in-Some.amount.now
    c.in-Some.ensures.value
    (λ is k. (wrote.3 is).0 k ∙ ap (λ (a : Amount). cond (is_eq (g.K.Ord.cmp c.args.key k)) (Some a) (find g.K.Ord.cmp es k)) c.plus.ensures)
    wrote.2)
