use Rattle.std.proofs.Common.{◌≡◌, drop}
use Rattle.captures.specs.Sections.{all_lines, first_lacking, lent_packets}
use Rattle.captures.proofs.section.lacking_in_lanes.Given as goal

-- what is first of all lanes is first from this place on
abbrev pub invariant-loop-place : goal.invariant-loop-place
invariant-loop-place l =
    first_lacking (lent_packets l.capture) (all_lines l.lanes) ≡ first_lacking (lent_packets l.capture) (all_lines (drop l.place l.lanes))
