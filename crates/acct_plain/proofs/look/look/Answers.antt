use Rattle.std.proofs.Common.{◌<◌, ◌≤◌, ◌^◌, subst, sym, Option}
use Rattle.acct_base.specs.declared.register.Key.TheVariants.{Enabled, Set}
use Rattle.acct_base.specs.declared.register.Seen.{Seen}
use Rattle.acct_base.specs.Journal.{current}
use Rattle.acct_base.specs.Receipts.{number_read}
use Rattle.acct_plain.proofs.Valid.{rules_in, set_in, current_sound}
use Rattle.acct_plain.proofs.look.look.Goals as goal

pub match_read-matched-requires : goal.match_read-matched-requires
match_read-matched-requires c =
    let journal = c.args.book.now.journal in
    record {
      small = subst (λ (r : Option Seen). number_read r < 2 ^ 32) (sym c.read_if-rules_seen.ensures)
          (rules_in _ (current journal Enabled) _ (current_sound Enabled journal c.requires));
    }

pub label_read-label-requires : goal.label_read-label-requires
label_read-label-requires c =
    let journal = c.args.book.now.journal in
    record {
      small = subst (λ (r : Option Seen). number_read r ≤ 1) (sym c.read_if-set_seen.ensures)
          (set_in _ (current journal (Set c.settle_read-settled.result.uid)) _ (current_sound (Set c.settle_read-settled.result.uid) journal c.requires));
    }
