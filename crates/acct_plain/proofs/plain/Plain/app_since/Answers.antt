use Rattle.std.proofs.Common.{ap, sym, subst, ◌∙◌}
use Rattle.std.specs.Ordering.{nat_cmp}
use Rattle.acct_base.specs.declared.amount.Amount.{Amount}
use Rattle.acct_base.specs.Amounts.{IsAtMost}
use Rattle.acct_plain.specs.Serial.{less}
use Rattle.acct_plain.specs.Ledgers.{amount_of}
use Rattle.acct_plain.specs.Kept.{Tables}
use Rattle.acct_plain.proofs.Ending.{app_is}
use Rattle.acct_plain.proofs.plain.Plain.app_since.Goals as goal

pub less-requires : goal.less-requires
less-requires c =
    let (past, n, le, k) = c.requires in
    let total = c.get-total.ensures ∙ ap (λ (t : Tables). amount_of nat_cmp t.apps c.args.uid) c.self.view_is ∙ app_is c.args.self.now past n c.args.uid k in
    let before = c.get-before.ensures ∙ ap (λ (t : Tables). amount_of nat_cmp t.recorded c.args.uid) c.self.view_is ∙ k.recorded c.args.uid in
    subst (λ (x : Amount × Amount). IsAtMost x.0 x.1) (λ i. (sym before i, sym total i)) (k.within c.args.uid)

pub returns : goal.returns
returns c = λ past n k.
    let total = c.get-total.ensures ∙ ap (λ (t : Tables). amount_of nat_cmp t.apps c.args.uid) c.self.view_is ∙ app_is c.args.self.now past n c.args.uid k in
    let before = c.get-before.ensures ∙ ap (λ (t : Tables). amount_of nat_cmp t.recorded c.args.uid) c.self.view_is ∙ k.recorded c.args.uid in
    c.less.ensures ∙ (λ i. less (total i) (before i))
