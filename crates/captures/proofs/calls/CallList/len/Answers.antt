use Rattle.std.proofs.Common.{◌∙◌, ap, sym, length}
use Rattle.captures.specs.Sections.{lent_packets}
use Rattle.captures.proofs.Lending.{calls_in-length}
use Rattle.captures.proofs.calls.CallList.len.Goals as goal

pub returns : goal.returns
returns c =
    c.len.ensures ∙ sym (calls_in-length (lent_packets c.self.inside.capture) c.self.inside.lines.now c.self.invariant) ∙ ap length c.self.view_is
