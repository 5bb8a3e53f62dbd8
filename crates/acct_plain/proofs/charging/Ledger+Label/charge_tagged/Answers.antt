use Rattle.std.proofs.Common.{List, ap, ◌∙◌}
use Rattle.acct_base.specs.declared.amount.Amount.{Amount}
use Rattle.acct_base.specs.declared.label.Label.{Label}
use Rattle.acct_base.specs.Amounts.{label_cmp, same_label}
use Rattle.acct_base.specs.Receipts.{untagged, is_landed}
use Rattle.acct_base.proofs.Keys.{label_agree}
use Rattle.acct_plain.specs.Ledgers.{find, amount_of}
use Rattle.acct_plain.proofs.Holding.{room_once}
use Rattle.acct_plain.proofs.Adding.{room_after}
use Rattle.acct_plain.proofs.Keeping.{same_labels}
use Rattle.acct_plain.proofs.Undoing.{put_back, add_elsewhere}
use Rattle.acct_plain.proofs.charging.Ledger+Label.charge_tagged.Goals as goal

pub add-requires : goal.add-requires
add-requires c = record { room = room_once (amount_of label_cmp c.args.self.now c.args.label) c.args.more.now (c.requires.room c.args.label) }

pub add-requires-2 : goal.add-requires-2
add-requires-2 c = record {
  room = room_after label_cmp c.args.self.now c.add.new.self c.args.limit c.args.label (untagged c.args.label) c.args.more.now (is_landed c.in_ok-tag.tag.mark) c.in_ok-tag.ensures.ok c.requires.room;
}

pub returns-in-Err-clause-err : goal.returns-in-Err-clause-err
returns-in-Err-clause-err c =
    put_back label_cmp same_label label_agree same_labels c.args.self.now c.add-2.new.self c.set.new.self c.args.label c.in_ok-tag.tag.before
    c.add.ensures.ordered c.set.ensures.ordered
    (λ k other. ap (λ (xs : List (Label × Amount)). find label_cmp xs k) c.in-Err.ensures.err
    ∙ add_elsewhere label_cmp c.args.self.now c.add.new.self c.args.limit c.args.label c.args.more.now (is_landed c.in_ok-tag.tag.mark) c.in_ok-tag.ensures.ok k other)
    c.in_ok-tag.ensures.before c.set.ensures.sets
