use Rattle.std.proofs.Common.{◌∙◌, ◌<◌, [], length, length-append, refl, ap, arith}
use Rattle.script_text.specs.declared.line.Line.TheVariants as lines
use Rattle.script_text.specs.declared.limits.Tally.{Tally}
use Rattle.script_text.specs.Lines.{spelled}
use Rattle.script_text.proofs.Orders.{shorter}
use Rattle.script_text.proofs.Passing.{pass_on, reaches}
use Rattle.script_text.proofs.counting.pass_packets.Goals as goal

pub next_packet-requires-clause-number : goal.next_packet-requires-clause-number
next_packet-requires-clause-number c = omega (arith, c.loop-hook.invariant.room, c.loop-hook.invariant.small.bytes_fit)

pub returns-then-takes_packet-clause-reaches : goal.returns-then-takes_packet-clause-reaches
returns-then-takes_packet-clause-reaches c = λ not t first bytes was.
    reaches t first bytes c.loop-hook.reader c.next_packet.new.self.tally c.next_packet.new.self.rest.now (lines.Hook c.in-Some.hook) (c.loop-hook.invariant.passed t first bytes was) (c.in-Some.ensures.found []) (c.if-takes_packet.ensures.takes refl)

pub loop-hook-smaller : goal.loop-hook-smaller
loop-hook-smaller c =
    let less : length c.next_packet.new.self.rest.now < length c.loop-hook.reader.rest.now =
    omega (arith, shorter (lines.Hook c.in-Some.hook) c.loop-hook.reader.rest.now c.next_packet.new.self.rest.now (c.in-Some.ensures.found []).next.text) in
    less

pub loop-hook-preserved : goal.loop-hook-preserved
loop-hook-preserved c =
    let e = c.in-Some.ensures in
    let inv = c.loop-hook.invariant in
    let less = shorter (lines.Hook c.in-Some.hook) c.loop-hook.reader.rest.now c.next_packet.new.self.rest.now (e.found []).next.text in
    let more = ap (λ (t : Tally). t.bytes) (e.found []).tally_is in
    let size = ap length (e.found []).next.text ∙ length-append (spelled (lines.Hook c.in-Some.hook)) c.next_packet.new.self.rest.now in
    record {
      lane = e.place;
      small = (e.found []).small;
      room = omega (arith, inv.room, e.number, less, more, size);
      no_longer = omega (arith, inv.no_longer, less);
      passed = λ t first bytes was.
          pass_on t first bytes c.loop-hook.reader c.next_packet.new.self (lines.Hook c.in-Some.hook) (inv.passed t first bytes was) (e.found []) e.place e.number (c.if-takes_packet.ensures.not refl);
    }

pub loop-hook-smaller-else-takes_packet : goal.loop-hook-smaller-else-takes_packet
loop-hook-smaller-else-takes_packet c =
    let less : length c.next_packet.new.self.rest.now < length c.loop-hook.reader.rest.now =
    omega (arith, shorter (lines.Hook c.in-Some.hook) c.loop-hook.reader.rest.now c.next_packet.new.self.rest.now (c.in-Some.ensures.found []).next.text) in
    less

pub loop-hook-preserved-else-takes_packet : goal.loop-hook-preserved-else-takes_packet
loop-hook-preserved-else-takes_packet c =
    let e = c.in-Some.ensures in
    let inv = c.loop-hook.invariant in
    let less = shorter (lines.Hook c.in-Some.hook) c.loop-hook.reader.rest.now c.next_packet.new.self.rest.now (e.found []).next.text in
    let more = ap (λ (t : Tally). t.bytes) (e.found []).tally_is in
    let size = ap length (e.found []).next.text ∙ length-append (spelled (lines.Hook c.in-Some.hook)) c.next_packet.new.self.rest.now in
    record {
      lane = e.place;
      small = (e.found []).small;
      room = omega (arith, inv.room, e.number, less, more, size);
      no_longer = omega (arith, inv.no_longer, less);
      passed = λ t first bytes was.
          pass_on t first bytes c.loop-hook.reader c.next_packet.new.self (lines.Hook c.in-Some.hook) (inv.passed t first bytes was) (e.found []) e.place e.number (c.if-takes_packet.ensures.not refl);
    }
