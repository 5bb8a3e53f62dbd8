use Rattle.std.proofs.Common.{sym, ◌∙◌}
use Rattle.script_text.proofs.CutLines.{cancel}
use Rattle.script_text.proofs.cutter.is_section.Goals as goal

pub returns-in-Some-clause-no : goal.returns-in-Some-clause-no
returns-in-Some-clause-no c = λ other e. c.is_same.ensures.no other (cancel c.args.head.now c.in-Some.tail.now c.args.text.now (sym c.in-Some.ensures ∙ sym e))
