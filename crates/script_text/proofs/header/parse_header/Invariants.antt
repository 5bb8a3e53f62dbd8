use Rattle.std.proofs.Common.{◌≡◌, length}
use Rattle.script_text.specs.declared.place.Place.TheVariants.{Start}
use Rattle.script_text.specs.Parts.{header_lines, default_sizes, with_sizes}
use Rattle.script_text.specs.Limits.{no_tally}
use Rattle.script_text.specs.Drafts.{HeaderAt, second_of}
use Rattle.script_text.specs.Drafts.{IsReadTo}
use Rattle.script_text.proofs.header.parse_header.Given as goal

abbrev pub invariant-loop-alloc : goal.invariant-loop-alloc
invariant-loop-alloc l = record {
  read : IsReadTo Start no_tally 1 l.fn.bytes (header_lines l.header) (second_of l.header.names) l.reader;
  at : HeaderAt l.reader.place l.header;
  sizes : l.header.sizes ≡ with_sizes default_sizes l.header.maps;
}

abbrev pub decreases-loop-alloc : goal.decreases-loop-alloc
decreases-loop-alloc l = length l.reader.rest.now
