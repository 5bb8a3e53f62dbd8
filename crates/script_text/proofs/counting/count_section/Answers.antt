use Rattle.std.proofs.Common.{◌+◌, ◌<◌, [], length, refl, arith}
use Rattle.script_text.specs.declared.place.Place.TheVariants.{Next}
use Rattle.script_text.specs.declared.reader.Reader.{Reader}
use Rattle.script_text.specs.Limits.{tally_before}
use Rattle.script_text.specs.Faults.{SyntaxAt, LimitAt}
use Rattle.script_text.specs.Drafts.{second_of}
use Rattle.script_text.proofs.Orders.{shorter, number_small, fails_next, with_names, none_read, small_before}
use Rattle.script_text.proofs.Passing.{pass_first, pass_on, reaches, counted, takes_nameless}
use Rattle.script_text.proofs.counting.count_section.Goals as goal

pub returns-in-Err-clause-limit : goal.returns-in-Err-clause-limit
returns-in-Err-clause-limit c = λ w line is.
    let h = c.in-Err.ensures.limit w line (let p = is in cc) in
    let reader : Reader = record { place = Next; tally = c.tally_of.result; number = c.args.before.now.lines + 1; rest = c.args.bytes } in
    let read = with_names Next (tally_before c.args.before.now) (c.args.before.now.lines + 1) c.args.bytes.now [] c.new-names.result reader c.new-names.ensures (none_read Next (tally_before c.args.before.now) (c.args.before.now.lines + 1) c.args.bytes.now reader refl c.tally_of.ensures refl refl (small_before c.args.before.now c.requires.limits)) in
    fails_next Next (tally_before c.args.before.now) (c.args.before.now.lines + 1) line c.args.bytes.now [] (second_of c.new-names.result) reader (LimitAt w) read (λ some. absurd (omega (arith, some))) h.0 h.1

pub loop-alloc-init : goal.loop-alloc-init
loop-alloc-init c =
    let e = c.in-Ok.ensures in
    let reader : Reader = record { place = Next; tally = c.tally_of.result; number = c.args.before.now.lines + 1; rest = c.args.bytes } in
    let read = none_read Next (tally_before c.args.before.now) (c.args.before.now.lines + 1) c.args.bytes.now reader refl c.tally_of.ensures refl refl (small_before c.args.before.now c.requires.limits) in
    record {
      passed = pass_first (tally_before c.args.before.now) (c.args.before.now.lines + 1) c.args.bytes.now reader c.next_line.new.self c.in-Ok.field-0 read refl (takes_nameless _ c.new-names.result _ _ _ _ _ c.new-names.ensures e.found) e.place e.number;
    }

pub next_line-requires-in-loop-alloc-clause-small : goal.next_line-requires-in-loop-alloc-clause-small
next_line-requires-in-loop-alloc-clause-small c = c.loop-alloc.invariant.passed.read.small

pub next_line-requires-in-loop-alloc-clause-number : goal.next_line-requires-in-loop-alloc-clause-number
next_line-requires-in-loop-alloc-clause-number c =
    let p = c.loop-alloc.invariant.passed in
    omega (arith, c.requires.lines, c.requires.limits.bytes, number_small Next (tally_before c.args.before.now) (c.args.before.now.lines + 1) c.args.bytes.now p.front [] c.loop-alloc.reader p.read)

pub returns-in-Err-next_line-clause-syntax : goal.returns-in-Err-next_line-clause-syntax
returns-in-Err-next_line-clause-syntax c = λ line is.
    let p = c.loop-alloc.invariant.passed in
    let h = c.in-Err-next_line.ensures.syntax line (let q = is in cc) in
    let read = with_names Next (tally_before c.args.before.now) (c.args.before.now.lines + 1) c.args.bytes.now p.front c.new-names.result c.loop-alloc.reader c.new-names.ensures p.read in
    fails_next Next (tally_before c.args.before.now) (c.args.before.now.lines + 1) line c.args.bytes.now p.front (second_of c.new-names.result) c.loop-alloc.reader SyntaxAt read (λ some. c.loop-alloc-test.ensures.more refl) h.0 h.1

pub returns-in-Err-next_line-clause-limit : goal.returns-in-Err-next_line-clause-limit
returns-in-Err-next_line-clause-limit c = λ w line is.
    let p = c.loop-alloc.invariant.passed in
    let h = c.in-Err-next_line.ensures.limit w line (let q = is in cc) in
    let read = with_names Next (tally_before c.args.before.now) (c.args.before.now.lines + 1) c.args.bytes.now p.front c.new-names.result c.loop-alloc.reader c.new-names.ensures p.read in
    fails_next Next (tally_before c.args.before.now) (c.args.before.now.lines + 1) line c.args.bytes.now p.front (second_of c.new-names.result) c.loop-alloc.reader (LimitAt w) read (λ some. c.loop-alloc-test.ensures.more refl) h.0 h.1

pub returns-then-needs_capture-clause-none : goal.returns-then-needs_capture-clause-none
returns-then-needs_capture-clause-none c =
    let e = c.in-Ok-next_line.ensures in
    reaches (tally_before c.args.before.now) (c.args.before.now.lines + 1) c.args.bytes.now c.loop-alloc.reader c.next_line-in-loop-alloc.new.self.tally c.next_line-in-loop-alloc.new.self.rest.now c.in-Ok-next_line.line
    c.loop-alloc.invariant.passed (takes_nameless _ c.new-names.result _ _ _ _ _ c.new-names.ensures e.found) (c.if-needs_capture.ensures.needs refl)

pub pass_packets-requires-clause-small : goal.pass_packets-requires-clause-small
pass_packets-requires-clause-small c = c.in-Ok-next_line.ensures.found.small

pub pass_packets-requires-clause-room : goal.pass_packets-requires-clause-room
pass_packets-requires-clause-room c =
    let p = c.loop-alloc.invariant.passed in
    omega (arith, c.in-Ok-next_line.ensures.number, c.requires.lines, c.requires.limits.bytes, number_small Next (tally_before c.args.before.now) (c.args.before.now.lines + 1) c.args.bytes.now p.front [] c.loop-alloc.reader p.read)

pub returns-then-not-pass_packets-clause-none : goal.returns-then-not-pass_packets-clause-none
returns-then-not-pass_packets-clause-none c =
    let e = c.in-Ok-next_line.ensures in
    let p = pass_on (tally_before c.args.before.now) (c.args.before.now.lines + 1) c.args.bytes.now c.loop-alloc.reader c.next_line-in-loop-alloc.new.self c.in-Ok-next_line.line
    c.loop-alloc.invariant.passed (takes_nameless _ c.new-names.result _ _ _ _ _ c.new-names.ensures e.found) e.place e.number (c.if-needs_capture.ensures.not refl) in
    c.if-not-pass_packets.ensures.reaches refl (tally_before c.args.before.now) (c.args.before.now.lines + 1) c.args.bytes.now p

pub loop-alloc-smaller : goal.loop-alloc-smaller
loop-alloc-smaller c =
    let less : length c.pass_packets.new.reader.rest.now < length c.loop-alloc.reader.rest.now =
    omega (arith, c.if-not-pass_packets.ensures.no_longer refl, shorter c.in-Ok-next_line.line c.loop-alloc.reader.rest.now c.next_line-in-loop-alloc.new.self.rest.now c.in-Ok-next_line.ensures.found.next.text) in
    less

pub loop-alloc-preserved : goal.loop-alloc-preserved
loop-alloc-preserved c =
    let e = c.in-Ok-next_line.ensures in
    let p = pass_on (tally_before c.args.before.now) (c.args.before.now.lines + 1) c.args.bytes.now c.loop-alloc.reader c.next_line-in-loop-alloc.new.self c.in-Ok-next_line.line
    c.loop-alloc.invariant.passed (takes_nameless _ c.new-names.result _ _ _ _ _ c.new-names.ensures e.found) e.place e.number (c.if-needs_capture.ensures.not refl) in
    record { passed = c.if-not-pass_packets.ensures.passed refl (tally_before c.args.before.now) (c.args.before.now.lines + 1) c.args.bytes.now p }

pub returns-clause-counts : goal.returns-clause-counts
returns-clause-counts c =
    counted c.args.before.now c.args.bytes.now c.loop-alloc.reader c.counts.result c.requires.lines c.loop-alloc.invariant.passed c.counts.ensures (c.loop-alloc-test.ensures.end refl)
