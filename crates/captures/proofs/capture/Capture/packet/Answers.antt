use Rattle.std.proofs.Common.{◌≡◌, ◌∙◌, Some, None, ap, sym}
use Rattle.std.specs.List.{slice_get}
use Rattle.captures.specs.Pcap.{packet_number, packet_at}
use Rattle.captures.proofs.Standing.{goes_on_at, number_some, number_none}
use Rattle.captures.proofs.capture.Capture.packet.Goals as goal

pub packet_behind-requires : goal.packet_behind-requires
packet_behind-requires c =
    let e : slice_get c.self.inside.places c.args.k ≡ Some c.in-Some.place.now = sym c.in-Some.ensures in
    goes_on_at _ _ _ _ _ c.self.invariant.0.packets _ _ e

pub returns-in-None : goal.returns-in-None
returns-in-None c =
    let e : slice_get c.self.inside.places c.args.k ≡ None = sym c.in-None.ensures in
    sym (number_none (packet_at c.self.inside.head c.self.inside.bytes.now) c.self.inside.places c.args.k e) ∙ ap (λ packets. packet_number packets c.args.k) c.self.view_is

pub returns-in-Some : goal.returns-in-Some
returns-in-Some c =
    let e : slice_get c.self.inside.places c.args.k ≡ Some c.in-Some.place.now = sym c.in-Some.ensures in
    c.packet_behind.ensures ∙ sym (number_some (packet_at c.self.inside.head c.self.inside.bytes.now) c.self.inside.places c.args.k c.in-Some.place.now e) ∙ ap (λ packets. packet_number packets c.args.k) c.self.view_is
