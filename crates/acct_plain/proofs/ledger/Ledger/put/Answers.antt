use Rattle.std.proofs.Common.{List, cond, ap, ◌∙◌}
use Rattle.std.specs.Prelude.{Some}
use Rattle.std.specs.Ordering.{is_eq}
use Rattle.acct_base.specs.declared.amount.Amount.{Amount}
use Rattle.acct_plain.specs.Ledgers.{find}
use Rattle.acct_plain.proofs.ledger.Ledger.put.Goals as goal

pub returns-clause-ok : goal.returns-clause-ok
returns-clause-ok g c = record {
  sums = λ k. c.in_ok-before.ensures.updates.0 k
      ∙ ap (λ (xs : List (g.row.K.Denot × Amount)). cond (is_eq (g.K.Ord.cmp c.args.key k)) (Some c.args.amount) (find g.K.Ord.cmp xs k)) c.self.view_is;
}
