use Rattle.std.proofs.Common.{◌≡◌, ◌+◌, ◌^◌, ◌≤◌, ℕ, List, [], length}
use Rattle.script_text.specs.declared.place.Place.TheVariants.{Next, Lane}
use Rattle.script_text.specs.declared.limits.Tally.{Tally}
use Rattle.script_text.specs.Limits.{IsSmall}
use Rattle.script_text.specs.Drafts.{draft_lines, IsDraft, DraftAt, IsReadTo}
use Rattle.script_text.proofs.section.take_packets.Given as goal

abbrev pub invariant-loop-hook : goal.invariant-loop-hook
invariant-loop-hook l = record {
  lane : l.reader.place ≡ Lane;
  small : IsSmall l.reader.tally;
  draft : IsDraft l.draft;
  first : l.draft.first ≡ l.fn.draft.first;
  at : DraftAt l.reader.place l.reader.number l.draft;
  is_next : l.reader.number ≡ l.draft.first + length (draft_lines l.draft);
  number : l.number ≡ l.reader.number;
  room : l.reader.number ≤ l.reader.tally.bytes + 2 ^ 62;
  no_longer : length l.reader.rest.now ≤ length l.fn.reader.rest.now;
  read : (t : Tally) (first : ℕ) (bytes : List ℕ) → IsReadTo Next t first bytes (draft_lines l.fn.draft) [] l.fn.reader → IsReadTo Next t first bytes (draft_lines l.draft) [] l.reader;
}

abbrev pub decreases-loop-hook : goal.decreases-loop-hook
decreases-loop-hook l = length l.reader.rest.now
