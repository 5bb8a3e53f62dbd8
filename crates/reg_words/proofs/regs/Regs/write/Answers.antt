use Rattle.std.proofs.Common.{rules}
use Rattle.reg_words.specs.Rule.{write_of}
use Rattle.reg_words.proofs.Truths.{unnamed_more}
use Rattle.reg_words.proofs.regs.Regs.write.Goals as goal

pub invariant_of-w : goal.invariant_of-w
invariant_of-w c = record {
  kind = search rules;
  logged = search rules;
  placed = search rules;
  shown = search rules;
  rests = search rules;
  limited = search rules;
  laid = search rules;
  held = search rules;
  short = search rules;
  roomy = search rules;
  published = search rules;
  slotless = search rules;
  unnamed = unnamed_more c.w.inside.journal.items _ (write_of c.args.key c.args.value) (search rules) c.w.invariant.unnamed c.push_reserved.ensures.items;
}
