use Rattle.std.proofs.Common.{cond, ap, ◌∙◌}
use Rattle.std.specs.Prelude.{Some}
use Rattle.std.specs.Ordering.{nat_cmp}
use Rattle.acct_base.specs.Landings.{same_number}
use Rattle.acct_base.proofs.Keys.{nat_agree}
use Rattle.acct_plain.specs.Ledgers.{find}
use Rattle.acct_plain.proofs.Keeping.{same_numbers}
use Rattle.acct_plain.proofs.Undoing.{put_back}
use Rattle.acct_plain.proofs.commands.write_noting.Goals as goal

pub returns-in-Err-clause-err : goal.returns-in-Err-clause-err
returns-in-Err-clause-err c = (
  c.in-Err.ensures.err,
  put_back nat_cmp same_number nat_agree same_numbers c.args.recorded.now c.put.new.self c.set.new.self c.args.uid c.in_ok-before.before
      c.put.ensures.ordered c.set.ensures.ordered
      (λ k other. c.in_ok-before.ensures.ok.sums k ∙ ap (λ b. cond b (Some c.args.total) (find nat_cmp c.args.recorded.now k)) other)
      c.in_ok-before.ensures.before c.set.ensures.sets,
)
