use Rattle.std.proofs.Common.{ℕ, ◌+◌, ◌<◌, [], ◌∷◌, length, length-append, refl, sym, ap, subst, ◌∙◌, arith}
use Rattle.script_text.specs.declared.line.Line.TheVariants as lines
use Rattle.script_text.specs.declared.place.Place.TheVariants.{Next}
use Rattle.script_text.specs.declared.reader.Reader.{Reader}
use Rattle.script_text.specs.declared.limits.Tally.{Tally}
use Rattle.script_text.specs.Lines.{spelled}
use Rattle.script_text.specs.Order.{place_of}
use Rattle.script_text.specs.Drafts.{draft_lines, DraftTakes, IsReadTo}
use Rattle.script_text.proofs.Takings.{draft_takes, at_same}
use Rattle.script_text.proofs.Orders.{read_on, shorter}
use Rattle.script_text.proofs.section.take_packets.Goals as goal

pub add_hook-requires-clause-takes : goal.add_hook-requires-clause-takes
add_hook-requires-clause-takes c =
    let takes = draft_takes c.loop-hook.reader.place c.loop-hook.reader.number c.loop-hook.draft (lines.Hook c.in-Some.hook) c.loop-hook.invariant.at (c.in-Some.ensures.found []).next.stands.follows_is in
    subst (λ (k : ℕ). DraftTakes c.loop-hook.draft k (lines.Hook c.in-Some.hook)) (sym c.loop-hook.invariant.number) takes

pub add_hook-requires-clause-room : goal.add_hook-requires-clause-room
add_hook-requires-clause-room c = omega (arith, c.loop-hook.invariant.number, c.loop-hook.invariant.room, c.loop-hook.invariant.small.bytes_fit)

pub next_packet-requires-clause-number : goal.next_packet-requires-clause-number
next_packet-requires-clause-number c = omega (arith, c.loop-hook.invariant.room, c.loop-hook.invariant.small.bytes_fit)

pub loop-hook-smaller : goal.loop-hook-smaller
loop-hook-smaller c =
    let less : length c.next_packet.new.self.rest.now < length c.loop-hook.reader.rest.now =
    omega (arith, shorter (lines.Hook c.in-Some.hook) c.loop-hook.reader.rest.now c.next_packet.new.self.rest.now (c.in-Some.ensures.found []).next.text) in
    less

pub loop-hook-preserved : goal.loop-hook-preserved
loop-hook-preserved c =
    let e = c.in-Some.ensures in
    let a = c.in_ok-add_hook.ensures in
    let inv = c.loop-hook.invariant in
    let less = shorter (lines.Hook c.in-Some.hook) c.loop-hook.reader.rest.now c.next_packet.new.self.rest.now (e.found []).next.text in
    let more = ap (λ (t : Tally). t.bytes) (e.found []).tally_is in
    let size = ap length (e.found []).next.text ∙ length-append (spelled (lines.Hook c.in-Some.hook)) c.next_packet.new.self.rest.now in
    let one = ap length a.lines ∙ length-append (draft_lines c.loop-hook.draft) (lines.Hook c.in-Some.hook ∷ []) in
    record {
      lane = e.place;
      small = (e.found []).small;
      draft = a.draft;
      first = a.first ∙ inv.first;
      at = at_same c.next_packet.new.self.place (place_of (lines.Hook c.in-Some.hook)) c.next_packet.new.self.number (c.loop-hook.number + 1) c.add_hook.new.self e.place (omega (arith, e.number, inv.number)) a.at;
      is_next = omega (arith, e.number, inv.is_next, a.first, one);
      number = refl;
      room = omega (arith, inv.room, e.number, less, more, size);
      no_longer = omega (arith, inv.no_longer, less);
      read = λ t first bytes was.
          read_on Next t first bytes (draft_lines c.loop-hook.draft) (draft_lines c.add_hook.new.self) [] [] c.loop-hook.reader c.next_packet.new.self (lines.Hook c.in-Some.hook) (inv.read t first bytes was) (e.found []) e.place e.number a.lines refl;
    }

pub returns-clause-read : goal.returns-clause-read
returns-clause-read c = λ t first bytes was.
    subst (λ (r : Reader). IsReadTo Next t first bytes (draft_lines c.loop-hook.draft) [] r) (sym c.in_default-next_packet.ensures.none) (c.loop-hook.invariant.read t first bytes was)
