use Rattle.std.proofs.Common.{◌≡◌, drop}
use Rattle.captures.specs.Sections.{first_lacking, lent_packets}
use Rattle.captures.proofs.section.lacking_in_lines.Given as goal

-- what is first of all lines is first from this place on
abbrev pub invariant-loop-place : goal.invariant-loop-place
invariant-loop-place l =
    first_lacking (lent_packets l.capture) l.lines ≡ first_lacking (lent_packets l.capture) (drop l.place l.lines)
