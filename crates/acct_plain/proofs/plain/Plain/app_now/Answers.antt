use Rattle.std.proofs.Common.{ap, sym, ◌∙◌, Some}
use Rattle.acct_base.specs.declared.amount.Amount.{Amount}
use Rattle.acct_plain.specs.Serial.{app_now}
use Rattle.acct_plain.proofs.plain.Plain.app_now.Goals as goal

pub returns-then-tag-eq0 : goal.returns-then-tag-eq0
returns-then-tag-eq0 c = λ past n k. ap (λ (a : Amount). Some a) (c.app_since.ensures past n k) ∙ ap (app_now past c.args.uid) (sym c.if-tag-eq0.true)
