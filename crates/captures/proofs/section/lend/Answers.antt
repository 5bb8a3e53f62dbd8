use Rattle.std.proofs.Common.{◌∙◌, [], ap, sym}
use Rattle.std.specs.Prelude.{unwrap_or}
use Rattle.captures.specs.Sections.{first_lacking, all_lines}
use Rattle.captures.proofs.Lending.{lanes-zip, lanes_have_packets}
use Rattle.captures.proofs.section.lend.Goals as goal

pub invariant_of-result : goal.invariant_of-result
invariant_of-result c =
    lanes_have_packets (unwrap_or c.args.capture []) c.args.lanes.now
    (sym (c.in-None.ensures ∙ ap (λ packets. first_lacking (unwrap_or packets []) (all_lines c.args.lanes.now)) c.as_ref.ensures.value))

pub returns-clause-calls : goal.returns-clause-calls
returns-clause-calls c =
    lanes-zip (unwrap_or c.args.capture []) c.args.lanes.now
    (lanes_have_packets (unwrap_or c.args.capture []) c.args.lanes.now
    (sym (c.in-None.ensures ∙ ap (λ packets. first_lacking (unwrap_or packets []) (all_lines c.args.lanes.now)) c.as_ref.ensures.value)))
