use Rattle.std.proofs.Common.{◌≡◌, ◌+◌, [], length}
use Rattle.script_text.specs.declared.place.Place.TheVariants.{Next}
use Rattle.script_text.specs.Limits.{tally_before}
use Rattle.script_text.specs.Drafts.{draft_lines, IsDraft, DraftAt}
use Rattle.script_text.specs.Drafts.{IsReadTo}
use Rattle.script_text.proofs.section.parse_section.Given as goal

abbrev pub invariant-loop-alloc : goal.invariant-loop-alloc
invariant-loop-alloc l = record {
  read : IsReadTo Next (tally_before l.fn.before) (l.fn.before.lines + 1) l.fn.bytes (draft_lines l.draft) [] l.reader;
  draft : IsDraft l.draft;
  first : l.draft.first ≡ l.fn.before.lines + 1;
  at : DraftAt l.reader.place l.reader.number l.draft;
}

abbrev pub decreases-loop-alloc : goal.decreases-loop-alloc
decreases-loop-alloc l = length l.reader.rest.now
