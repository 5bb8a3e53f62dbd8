use Rattle.std.proofs.Common.{◌≡◌, true, Option, List, cond, sym, ap, ◌∙◌}
use Rattle.std.specs.Prelude.{Some, is_some}
use Rattle.std.specs.Ordering.{is_eq}
use Rattle.std.specs.BTreeMap.{Updates}
use Rattle.acct_base.specs.declared.amount.Amount.{Amount}
use Rattle.acct_plain.specs.Ledgers.{find}
use Rattle.acct_plain.proofs.Adding.{sure}
use Rattle.acct_plain.proofs.ledger.Ledger.set.Goals as goal

pub returns-in-None-clause-sets : goal.returns-in-None-clause-sets
returns-in-None-clause-sets g c = record {
  sums = λ k. c.remove.ensures.updates.0 k ∙ (λ i. cond (is_eq (g.K.Ord.cmp c.args.key k)) (sym c.in-None.is i) (find g.K.Ord.cmp (c.self.view_is i) k));
}

pub returns-in-Some-clause-sets : goal.returns-in-Some-clause-sets
returns-in-Some-clause-sets g c =
    let es = c.self.inside.entries.entries in
    let there : is_some (find g.K.Ord.cmp es c.args.key) ≡ true =
    ap (λ (xs : List (g.row.K.Denot × Amount)). is_some (find g.K.Ord.cmp xs c.args.key)) c.self.view_is ∙ c.requires.there (ap (λ (o : Option Amount). is_some o) c.in-Some.is) in
    let updates = sure c.insert.result (Updates g.K.Ord.cmp c.self.inside.entries c.insert.new.self c.args.key (Some c.in-Some.amount)) (find g.K.Ord.cmp es c.args.key) c.insert.ensures.absent there c.insert.ensures.updates in
    record { sums = λ k. updates.0 k ∙ (λ i. cond (is_eq (g.K.Ord.cmp c.args.key k)) (sym c.in-Some.is i) (find g.K.Ord.cmp (c.self.view_is i) k)) }
