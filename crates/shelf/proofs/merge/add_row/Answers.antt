use Rattle.std.proofs.Common.{cond, sym, ap, ◌∙◌}
use Rattle.std.specs.Prelude.{Option, Some, unwrap_or}
use Rattle.std.specs.Ordering.{is_eq}
use Rattle.std.specs.BTreeMap.{BTreeMap}
use Rattle.acct_base.specs.declared.amount.Amount.{Amount}
use Rattle.acct_base.specs.declared.label.Label.{Label}
use Rattle.acct_base.specs.Amounts.{label_cmp, zero_amount, plus}
use Rattle.acct_base.proofs.SumLemmas.{zero_plus}
use Rattle.shelf.specs.Merged.{find_amount}
use Rattle.shelf.proofs.merge.add_row.Goals as goal

pub returns-in_ok-insert-in-None : goal.returns-in_ok-insert-in-None
returns-in_ok-insert-in-None c =
    let stays = c.get_mut.follows.holds-at-none in
    let k = c.args.row.now.label in
    let more = c.args.row.now.amount in
    let es = c.args.sums.now.entries in
    λ l. c.in_ok-insert-in-None.ensures.updates.0 l
    ∙ ap (λ (m : BTreeMap Label Amount). cond (is_eq (label_cmp k l)) (Some more) (find_amount m.entries l)) stays
    ∙ ap (λ (a : Amount). cond (is_eq (label_cmp k l)) (Some a) (find_amount es l)) (sym (ap (λ (o : Option Amount). plus (unwrap_or o zero_amount) more) (sym c.in-None.ensures.value) ∙ zero_plus more))
