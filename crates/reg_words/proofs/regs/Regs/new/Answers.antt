use Rattle.std.proofs.Common.{rules, ◌≡◌, ◌+◌, replicate, length, ap, ◌∙◌}
use Rattle.std.proofs.lemmas.List.{length-replicate}
use Rattle.reg_words.proofs.Keeps.{splits, live_writer, opens}
use Rattle.reg_words.specs.Places.{total}
use Rattle.reg_words.proofs.Prefixes.{all_zero}
use Rattle.reg_words.proofs.regs.Regs.new.Goals as goal

pub of_words-requires : goal.of_words-requires
of_words-requires c = let e : c.in_ok-words.words.items ≡ replicate (1 + total c.args.sizes.now + total c.args.sizes.now + c.args.sizes.now.writes) 0 = search rules in
    let same : c.as_slice.result.now ≡ replicate (1 + total c.args.sizes.now + total c.args.sizes.now + c.args.sizes.now.writes) 0 = c.as_slice.ensures.value ∙ e in
    opens _ _ (ap length same ∙ length-replicate (1 + total c.args.sizes.now + total c.args.sizes.now + c.args.sizes.now.writes) 0) (all_zero _ _ same)

pub split_seat-other-requires : goal.split_seat-other-requires
split_seat-other-requires c = (search rules, search rules, splits _ _ _ (live_writer _ (search rules)))
