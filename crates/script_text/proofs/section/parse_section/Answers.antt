use Rattle.std.proofs.Common.{ℕ, ◌+◌, ◌<◌, [], ◌∷◌, ◌++◌, List, length, length-append, refl, sym, ap, subst, ◌∙◌, arith}
use Rattle.std.proofs.lemmas.List.{append-nil}
use Rattle.script_text.specs.declared.place.Place.TheVariants.{Next}
use Rattle.std.specs.List.{AllByRecursion}
use Rattle.script_text.specs.declared.line.Line.{Line}
use Rattle.script_text.specs.declared.line.Line.TheVariants as lines
use Rattle.script_text.specs.declared.reader.Reader.{Reader}
use Rattle.script_text.specs.Lines.{IsLine}
use Rattle.script_text.specs.Parts.{lines_text}
use Rattle.script_text.specs.Order.{names_in, place_of, InOrder}
use Rattle.script_text.specs.Limits.{tally_before, counts_of, tallied, KeepLimits}
use Rattle.script_text.specs.Faults.{SyntaxAt, LimitAt}
use Rattle.script_text.specs.Drafts.{draft_lines, second_of}
use Rattle.script_text.proofs.Takings.{at_same, draft_takes, no_names, first_is_section}
use Rattle.script_text.proofs.Orders.{shorter, number_small, read_on, fails_next, counts_read, with_names, without_names, none_read, small_before}
use Rattle.script_text.proofs.section.parse_section.Goals as goal

pub returns-in-Err-clause-limit : goal.returns-in-Err-clause-limit
returns-in-Err-clause-limit c = λ w line is.
    let h = c.in-Err.ensures.limit w line (let p = is in cc) in
    let reader : Reader = record { place = Next; tally = c.tally_of.result; number = c.args.before.now.lines + 1; rest = c.args.bytes } in
    let read = with_names Next (tally_before c.args.before.now) (c.args.before.now.lines + 1) c.args.bytes.now [] c.new-names.result reader c.new-names.ensures (none_read Next (tally_before c.args.before.now) (c.args.before.now.lines + 1) c.args.bytes.now reader refl c.tally_of.ensures refl refl (small_before c.args.before.now c.requires.limits)) in
    fails_next Next (tally_before c.args.before.now) (c.args.before.now.lines + 1) line c.args.bytes.now [] (second_of c.new-names.result) reader (LimitAt w) read (λ some. absurd (omega (arith, some))) h.0 h.1

pub loop-alloc-init : goal.loop-alloc-init
loop-alloc-init c =
    let e = c.in-Ok.ensures in
    let reader : Reader = record { place = Next; tally = c.tally_of.result; number = c.args.before.now.lines + 1; rest = c.args.bytes } in
    let read = with_names Next (tally_before c.args.before.now) (c.args.before.now.lines + 1) c.args.bytes.now [] c.new-names.result reader c.new-names.ensures (none_read Next (tally_before c.args.before.now) (c.args.before.now.lines + 1) c.args.bytes.now reader refl c.tally_of.ensures refl refl (small_before c.args.before.now c.requires.limits)) in
    let first = first_is_section c.in-Ok.field-0 e.found.next.stands.follows_is in
    let named = sym (append-nil (second_of c.new-names.result)) ∙ ap (λ (l : Line). second_of c.new-names.result ++ names_in (l ∷ [])) (sym first) in
    let one = c.new-draft.ensures.lines ∙ ap (λ (l : Line). l ∷ []) (sym first) in
    record {
      read = without_names Next (tally_before c.args.before.now) (c.args.before.now.lines + 1) c.args.bytes.now (draft_lines c.new-draft.result) c.new-names.result c.next_line.new.self c.new-names.ensures (
          read_on Next (tally_before c.args.before.now) (c.args.before.now.lines + 1) c.args.bytes.now [] (draft_lines c.new-draft.result) (second_of c.new-names.result) (second_of c.new-names.result) reader c.next_line.new.self c.in-Ok.field-0 read e.found e.place e.number one named
          );
      draft = c.new-draft.ensures.draft;
      first = c.new-draft.ensures.first;
      at = at_same c.next_line.new.self.place (place_of lines.Section) c.next_line.new.self.number (c.args.before.now.lines + 1 + 1) c.new-draft.result (e.place ∙ ap place_of first) e.number c.new-draft.ensures.at;
    }

pub next_line-requires-in-loop-alloc-clause-small : goal.next_line-requires-in-loop-alloc-clause-small
next_line-requires-in-loop-alloc-clause-small c = c.loop-alloc.invariant.read.small

pub next_line-requires-in-loop-alloc-clause-number : goal.next_line-requires-in-loop-alloc-clause-number
next_line-requires-in-loop-alloc-clause-number c =
    omega (arith, c.requires.lines, c.requires.limits.bytes, number_small Next (tally_before c.args.before.now) (c.args.before.now.lines + 1) c.args.bytes.now (draft_lines c.loop-alloc.draft) [] c.loop-alloc.reader c.loop-alloc.invariant.read)

pub returns-in-Err-next_line-clause-syntax : goal.returns-in-Err-next_line-clause-syntax
returns-in-Err-next_line-clause-syntax c = λ line is.
    let h = c.in-Err-next_line.ensures.syntax line (let p = is in cc) in
    let read = with_names Next (tally_before c.args.before.now) (c.args.before.now.lines + 1) c.args.bytes.now (draft_lines c.loop-alloc.draft) c.new-names.result c.loop-alloc.reader c.new-names.ensures c.loop-alloc.invariant.read in
    fails_next Next (tally_before c.args.before.now) (c.args.before.now.lines + 1) line c.args.bytes.now (draft_lines c.loop-alloc.draft) (second_of c.new-names.result) c.loop-alloc.reader SyntaxAt read (λ some. c.loop-alloc-test.ensures.more refl) h.0 h.1

pub returns-in-Err-next_line-clause-limit : goal.returns-in-Err-next_line-clause-limit
returns-in-Err-next_line-clause-limit c = λ w line is.
    let h = c.in-Err-next_line.ensures.limit w line (let p = is in cc) in
    let read = with_names Next (tally_before c.args.before.now) (c.args.before.now.lines + 1) c.args.bytes.now (draft_lines c.loop-alloc.draft) c.new-names.result c.loop-alloc.reader c.new-names.ensures c.loop-alloc.invariant.read in
    fails_next Next (tally_before c.args.before.now) (c.args.before.now.lines + 1) line c.args.bytes.now (draft_lines c.loop-alloc.draft) (second_of c.new-names.result) c.loop-alloc.reader (LimitAt w) read (λ some. c.loop-alloc-test.ensures.more refl) h.0 h.1

pub add-requires-clause-draft : goal.add-requires-clause-draft
add-requires-clause-draft c = c.loop-alloc.invariant.draft

pub add-requires-clause-takes : goal.add-requires-clause-takes
add-requires-clause-takes c =
    draft_takes c.loop-alloc.reader.place c.loop-alloc.reader.number c.loop-alloc.draft c.in-Ok-next_line.line c.loop-alloc.invariant.at c.in-Ok-next_line.ensures.found.next.stands.follows_is

pub add-requires-clause-next : goal.add-requires-clause-next
add-requires-clause-next c = omega (arith, c.loop-alloc.invariant.read.number, c.loop-alloc.invariant.first)

pub add-requires-clause-room : goal.add-requires-clause-room
add-requires-clause-room c =
    omega (arith, c.requires.lines, c.requires.limits.bytes, number_small Next (tally_before c.args.before.now) (c.args.before.now.lines + 1) c.args.bytes.now (draft_lines c.loop-alloc.draft) [] c.loop-alloc.reader c.loop-alloc.invariant.read)

pub take_packets-requires-clause-small : goal.take_packets-requires-clause-small
take_packets-requires-clause-small c = c.in-Ok-next_line.ensures.found.small

pub take_packets-requires-clause-draft : goal.take_packets-requires-clause-draft
take_packets-requires-clause-draft c = c.in_ok-add-in-Ok-next_line.ensures.draft

pub take_packets-requires-clause-at : goal.take_packets-requires-clause-at
take_packets-requires-clause-at c =
    let e = c.in-Ok-next_line.ensures in
    at_same c.next_line-in-loop-alloc.new.self.place (place_of c.in-Ok-next_line.line) c.next_line-in-loop-alloc.new.self.number (c.loop-alloc.reader.number + 1) c.add.new.self e.place e.number c.in_ok-add-in-Ok-next_line.ensures.at

pub take_packets-requires-clause-next : goal.take_packets-requires-clause-next
take_packets-requires-clause-next c =
    let e = c.in-Ok-next_line.ensures in
    let a = c.in_ok-add-in-Ok-next_line.ensures in
    let one = ap length a.lines ∙ length-append (draft_lines c.loop-alloc.draft) (c.in-Ok-next_line.line ∷ []) in
    omega (arith, e.number, c.loop-alloc.invariant.read.number, c.loop-alloc.invariant.first, a.first, one)

pub take_packets-requires-clause-room : goal.take_packets-requires-clause-room
take_packets-requires-clause-room c =
    omega (arith, c.in-Ok-next_line.ensures.number, c.requires.lines, c.requires.limits.bytes, number_small Next (tally_before c.args.before.now) (c.args.before.now.lines + 1) c.args.bytes.now (draft_lines c.loop-alloc.draft) [] c.loop-alloc.reader c.loop-alloc.invariant.read)

pub loop-alloc-preserved : goal.loop-alloc-preserved
loop-alloc-preserved c =
    let e = c.in-Ok-next_line.ensures in
    let a = c.in_ok-add-in-Ok-next_line.ensures in
    let t = c.in_ok-take_packets.ensures in
    let takes = draft_takes c.loop-alloc.reader.place c.loop-alloc.reader.number c.loop-alloc.draft c.in-Ok-next_line.line c.loop-alloc.invariant.at e.found.next.stands.follows_is in
    let read = with_names Next (tally_before c.args.before.now) (c.args.before.now.lines + 1) c.args.bytes.now (draft_lines c.loop-alloc.draft) c.new-names.result c.loop-alloc.reader c.new-names.ensures c.loop-alloc.invariant.read in
    let named = sym (append-nil (second_of c.new-names.result)) ∙ ap (λ (ns : List (List ℕ)). second_of c.new-names.result ++ ns) (sym (no_names c.loop-alloc.reader.number c.loop-alloc.draft c.in-Ok-next_line.line takes)) in
    record {
      read = t.read (tally_before c.args.before.now) (c.args.before.now.lines + 1) c.args.bytes.now (
          without_names Next (tally_before c.args.before.now) (c.args.before.now.lines + 1) c.args.bytes.now (draft_lines c.add.new.self) c.new-names.result c.next_line-in-loop-alloc.new.self c.new-names.ensures (
          read_on Next (tally_before c.args.before.now) (c.args.before.now.lines + 1) c.args.bytes.now (draft_lines c.loop-alloc.draft) (draft_lines c.add.new.self) (second_of c.new-names.result) (second_of c.new-names.result) c.loop-alloc.reader c.next_line-in-loop-alloc.new.self c.in-Ok-next_line.line read e.found e.place e.number a.lines named
          ));
      draft = t.draft;
      first = t.first ∙ a.first ∙ c.loop-alloc.invariant.first;
      at = t.at;
    }

pub loop-alloc-smaller : goal.loop-alloc-smaller
loop-alloc-smaller c =
    let less : length c.take_packets.new.reader.rest.now < length c.loop-alloc.reader.rest.now =
    omega (arith, c.in_ok-take_packets.ensures.no_longer, shorter c.in-Ok-next_line.line c.loop-alloc.reader.rest.now c.next_line-in-loop-alloc.new.self.rest.now c.in-Ok-next_line.ensures.found.next.text) in
    less

pub counts-counts-requires : goal.counts-counts-requires
counts-counts-requires c = omega (arith, c.loop-alloc.invariant.read.number)

pub finish-requires : goal.finish-requires
finish-requires c = c.loop-alloc.invariant.draft

pub returns-clause-section : goal.returns-clause-section
returns-clause-section c =
    let lines = c.in_ok-section.ensures.lines in
    let read = c.loop-alloc.invariant.read.read in
    record {
      section = record {
        fits = subst (AllByRecursion IsLine) (sym lines) read.fits;
        order = subst (InOrder Next []) (sym lines) read.order;
        captured = c.in_ok-section.ensures.section.captured;
        numbered = c.in_ok-section.ensures.section.numbered;
      };
      first = c.in_ok-section.ensures.first ∙ c.loop-alloc.invariant.first;
      limits = subst (KeepLimits (tally_before c.args.before.now)) (sym lines) read.limits;
    }

pub returns-clause-counts : goal.returns-clause-counts
returns-clause-counts c =
    (counts_read Next (tally_before c.args.before.now) c.args.before.now.lines c.args.bytes.now (draft_lines c.loop-alloc.draft) [] c.loop-alloc.reader c.counts-counts.result c.loop-alloc.invariant.read c.requires.lines c.counts-counts.ensures).counts
    ∙ ap (λ (ls : List Line). counts_of (tallied (tally_before c.args.before.now) ls) (c.args.before.now.lines + length ls)) (sym c.in_ok-section.ensures.lines)

pub returns-clause-limits : goal.returns-clause-limits
returns-clause-limits c = (counts_read Next (tally_before c.args.before.now) c.args.before.now.lines c.args.bytes.now (draft_lines c.loop-alloc.draft) [] c.loop-alloc.reader c.counts-counts.result c.loop-alloc.invariant.read c.requires.lines c.counts-counts.ensures).limits

pub returns-clause-lines : goal.returns-clause-lines
returns-clause-lines c = (counts_read Next (tally_before c.args.before.now) c.args.before.now.lines c.args.bytes.now (draft_lines c.loop-alloc.draft) [] c.loop-alloc.reader c.counts-counts.result c.loop-alloc.invariant.read c.requires.lines c.counts-counts.ensures).lines

pub returns-clause-spelled : goal.returns-clause-spelled
returns-clause-spelled c =
    let rest = c.loop-alloc.reader.rest.now in
    (rest, c.loop-alloc.invariant.read.read.read ∙ ap (λ (ls : List Line). lines_text ls ++ rest) (sym c.in_ok-section.ensures.lines), c.loop-alloc-test.ensures.end refl)
