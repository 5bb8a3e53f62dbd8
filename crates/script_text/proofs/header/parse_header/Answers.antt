use Rattle.std.proofs.Common.{refl, sym, ap, subst, ◌∙◌, arith}
use Rattle.script_text.specs.declared.place.Place.{Place}
use Rattle.script_text.specs.declared.place.Place.TheVariants.{Start}
use Rattle.script_text.specs.Parts.{header_lines}
use Rattle.script_text.specs.Limits.{no_tally, counts_of, tallied}
use Rattle.script_text.specs.Faults.{SyntaxAt, LimitAt}
use Rattle.script_text.specs.Drafts.{HeaderAt, second_of}
use Rattle.script_text.proofs.Orders.{number_small, read_on, fails_next, counts_read}
use Rattle.script_text.proofs.header.parse_header.Goals as goal

pub next_line-requires-in-loop-alloc-clause-number : goal.next_line-requires-in-loop-alloc-clause-number
next_line-requires-in-loop-alloc-clause-number c =
    omega (arith, number_small Start no_tally 1 c.args.bytes.now (header_lines c.loop-alloc.header) (second_of c.loop-alloc.header.names) c.loop-alloc.reader c.loop-alloc.invariant.read)

pub returns-in-Err-next_line-clause-syntax : goal.returns-in-Err-next_line-clause-syntax
returns-in-Err-next_line-clause-syntax c = λ line is.
    let h = c.in-Err-next_line.ensures.syntax line (let p = is in cc) in
    fails_next Start no_tally 1 line c.args.bytes.now (header_lines c.loop-alloc.header) (second_of c.loop-alloc.header.names) c.loop-alloc.reader SyntaxAt c.loop-alloc.invariant.read (λ some. c.loop-alloc-test.ensures.more refl) h.0 h.1

pub returns-in-Err-next_line-clause-limit : goal.returns-in-Err-next_line-clause-limit
returns-in-Err-next_line-clause-limit c = λ w line is.
    let h = c.in-Err-next_line.ensures.limit w line (let p = is in cc) in
    fails_next Start no_tally 1 line c.args.bytes.now (header_lines c.loop-alloc.header) (second_of c.loop-alloc.header.names) c.loop-alloc.reader (LimitAt w) c.loop-alloc.invariant.read (λ some. c.loop-alloc-test.ensures.more refl) h.0 h.1

pub loop-alloc-preserved : goal.loop-alloc-preserved
loop-alloc-preserved c =
    let e = c.in-Ok-next_line.ensures in
    let a = c.in_ok-add-in-Ok-next_line.ensures in
    record {
      read = read_on Start no_tally 1 c.args.bytes.now (header_lines c.loop-alloc.header) (header_lines c.add.new.self) (second_of c.loop-alloc.header.names) (second_of c.add.new.self.names) c.loop-alloc.reader c.next_line-in-loop-alloc.new.self c.in-Ok-next_line.line c.loop-alloc.invariant.read e.found e.place e.number a.lines a.names;
      at = subst (λ (p : Place). HeaderAt p c.add.new.self) (sym e.place) a.at;
      sizes = a.sizes;
    }

pub returns-clause-counts : goal.returns-clause-counts
returns-clause-counts c =
    (counts_read Start no_tally 0 c.args.bytes.now (header_lines c.loop-alloc.header) (second_of c.loop-alloc.header.names) c.loop-alloc.reader c.counts-counts.result c.loop-alloc.invariant.read (omega arith) c.counts-counts.ensures).counts
    ∙ ap (counts_of (tallied no_tally (header_lines c.loop-alloc.header))) (omega arith)

pub returns-clause-limits : goal.returns-clause-limits
returns-clause-limits c =
    (counts_read Start no_tally 0 c.args.bytes.now (header_lines c.loop-alloc.header) (second_of c.loop-alloc.header.names) c.loop-alloc.reader c.counts-counts.result c.loop-alloc.invariant.read (omega arith) c.counts-counts.ensures).limits

pub returns-clause-lines : goal.returns-clause-lines
returns-clause-lines c =
    (counts_read Start no_tally 0 c.args.bytes.now (header_lines c.loop-alloc.header) (second_of c.loop-alloc.header.names) c.loop-alloc.reader c.counts-counts.result c.loop-alloc.invariant.read (omega arith) c.counts-counts.ensures).lines
