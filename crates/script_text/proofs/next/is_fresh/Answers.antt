use Rattle.std.proofs.Common.{sym, ap, ◌∙◌}
use Rattle.std.specs.Prelude.{not}
use Rattle.script_text.specs.Order.{is_fresh}
use Rattle.script_text.specs.Drafts.{second_of}
use Rattle.script_text.proofs.NextLines.{any_second}
use Rattle.script_text.proofs.next.is_fresh.Goals as goal

pub returns-in-If : goal.returns-in-If
returns-in-If c = ap not (c.has_name.ensures ∙ any_second c.in-If.name c.args.names.now) ∙ ap (is_fresh (second_of c.args.names.now)) (sym c.in-If.is)
