use Rattle.std.proofs.Common.{◌≡◌, ◌+◌, ◌^◌, ◌≤◌, ℕ, List, length}
use Rattle.script_text.specs.declared.place.Place.TheVariants.{Lane}
use Rattle.script_text.specs.declared.limits.Tally.{Tally}
use Rattle.script_text.specs.Limits.{IsSmall}
use Rattle.script_text.specs.Drafts.{IsPassed}
use Rattle.script_text.proofs.counting.pass_packets.Given as goal

abbrev pub invariant-loop-hook : goal.invariant-loop-hook
invariant-loop-hook l = record {
  lane : l.reader.place ≡ Lane;
  small : IsSmall l.reader.tally;
  room : l.reader.number ≤ l.reader.tally.bytes + 2 ^ 62;
  no_longer : length l.reader.rest.now ≤ length l.fn.reader.rest.now;
  passed : (t : Tally) (first : ℕ) (bytes : List ℕ) → IsPassed t first bytes l.fn.reader → IsPassed t first bytes l.reader;
}

abbrev pub decreases-loop-hook : goal.decreases-loop-hook
decreases-loop-hook l = length l.reader.rest.now
