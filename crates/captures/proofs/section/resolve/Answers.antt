use Rattle.std.proofs.Common.{[], ap}
use Rattle.std.specs.Prelude.{unwrap_or}
use Rattle.captures.specs.Sections.{AreCalls}
use Rattle.captures.specs.Lent.{section_calls}
use Rattle.captures.proofs.Ranged.{section_in_range, section_heads_fit}
use Rattle.captures.proofs.section.resolve.Goals as goal

-- what was resolved are the section's calls
are_calls : (c : goal.After-as_ref) → AreCalls c.args.section.now (section_calls (record { lanes = c.in-Ok.lanes; desk = c.as_ref.result }))
are_calls c = record {
  packets = unwrap_or c.in_ok-capture.capture [];
  packets_are = c.in_ok-capture.ensures.packets;
  lanes = c.in-Ok.ensures.calls;
  desk = ap (λ desk. unwrap_or desk []) c.as_ref.ensures.value;
}

pub returns-in-Ok-clause-ranges : goal.returns-in-Ok-clause-ranges
returns-in-Ok-clause-ranges c = section_in_range c.args.section.now _ c.requires.section (are_calls c)

pub returns-in-Ok-clause-heads : goal.returns-in-Ok-clause-heads
returns-in-Ok-clause-heads c = section_heads_fit c.args.section.now _ c.requires.section (are_calls c)
