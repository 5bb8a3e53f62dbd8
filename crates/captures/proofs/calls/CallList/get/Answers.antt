use Rattle.std.proofs.Common.{◌∙◌, ap, sym, option_map}
use Rattle.std.specs.Prelude.{option_and_then}
use Rattle.std.specs.List.{slice_get}
use Rattle.acct_base.specs.Receipts.{Call}
use Rattle.captures.specs.Sections.{line_call, lent_packets}
use Rattle.captures.proofs.Lending.{calls_in-get}
use Rattle.captures.proofs.calls.CallList.get.Goals as goal

pub returns-in-None : goal.returns-in-None
returns-in-None c =
    ap (option_and_then (line_call (lent_packets c.self.inside.capture))) c.in-None.ensures
    ∙ sym (calls_in-get (lent_packets c.self.inside.capture) c.self.inside.lines.now c.args.place c.self.invariant)
    ∙ ap (λ calls. slice_get calls c.args.place) c.self.view_is

pub returns-in-Some : goal.returns-in-Some
returns-in-Some c =
    c.numbered.ensures ∙ ap (option_map (λ (call : Call). (c.in-Some.line, call))) c.call_of.ensures
    ∙ ap (option_and_then (line_call (lent_packets c.self.inside.capture))) c.in-Some.ensures
    ∙ sym (calls_in-get (lent_packets c.self.inside.capture) c.self.inside.lines.now c.args.place c.self.invariant)
    ∙ ap (λ calls. slice_get calls c.args.place) c.self.view_is
