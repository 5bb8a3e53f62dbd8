use Rattle.std.proofs.Common.{sym}
use Rattle.captures.specs.Sections.{lent_packets}
use Rattle.captures.proofs.Lending.{line_passed, line_found}
use Rattle.captures.proofs.section.lacking_in_lines.Goals as goal

pub loop-place-preserved : goal.loop-place-preserved
loop-place-preserved c =
    line_passed (lent_packets c.args.capture) c.args.lines.now c.loop-place.place c.lacking_at-found.result c.lacking_at-found.ensures (sym c.if-is_some.ensures) c.loop-place.invariant

pub returns-then-is_some : goal.returns-then-is_some
returns-then-is_some c =
    line_found (lent_packets c.args.capture) c.args.lines.now c.loop-place.place c.lacking_at-found.result c.lacking_at-found.ensures (sym c.if-is_some.ensures) c.loop-place.invariant
