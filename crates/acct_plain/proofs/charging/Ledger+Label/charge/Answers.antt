use Rattle.std.proofs.Common.{◌≡◌, refl, subst, arith}
use Rattle.acct_base.specs.declared.label.Label.{Label}
use Rattle.acct_base.specs.Amounts.{label_cmp}
use Rattle.acct_base.specs.Receipts.{is_landed, untagged}
use Rattle.acct_plain.specs.Ledgers.{Adds, amount_of}
use Rattle.acct_plain.proofs.Holding.{room_once}
use Rattle.acct_plain.proofs.charging.Ledger+Label.charge.Goals as goal

pub add-requires : goal.add-requires
add-requires c = record { room = room_once (amount_of label_cmp c.args.self.now c.args.label) c.args.more.now (c.requires.room c.args.label) }

pub returns-clause-ok : goal.returns-clause-ok
returns-clause-ok c =
    let zero : c.args.label.tag ≡ 0 = omega (arith, c.if-label-ne0.false) in
    let same : c.args.label ≡ untagged c.args.label = λ i. record c.args.label { tag = zero i } in record {
      between = c.args.self.now;
      is_made = grind (arith, zero);
      tag = refl;
      plain = subst (λ (l : Label). Adds label_cmp c.args.self.now c.add.new.self c.args.limit l c.args.more.now (is_landed c.in_ok-plain.plain.mark)) same c.in_ok-plain.ensures.ok;
    }
