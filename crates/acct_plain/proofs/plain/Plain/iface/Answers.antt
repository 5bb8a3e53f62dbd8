use Rattle.std.proofs.Common.{ap, ℕ, subst, sym, ◌∙◌}
use Rattle.std.specs.Ordering.{nat_cmp}
use Rattle.acct_base.specs.declared.amount.Amount.{Amount}
use Rattle.acct_base.specs.Receipts.{is_landed}
use Rattle.acct_plain.specs.Serial.{serial_iface}
use Rattle.acct_plain.specs.Ledgers.{Adds}
use Rattle.acct_plain.specs.Kept.{Tables, Keeps, HasRoomFor, IsSmall}
use Rattle.acct_plain.proofs.Keeping.{iface_room, iface_kept, small_in}
use Rattle.acct_plain.proofs.Hooks.{iface_is}
use Rattle.acct_plain.proofs.plain.Plain.iface.Goals as goal

pub add-requires : goal.add-requires
add-requires c =
    let small = subst IsSmall (sym c.counted-more.ensures) (small_in c.args.call.now.dir c.scaled-packets.result.0 c.scaled-packets.result.1 c.scaled-packets.ensures.chargeable) in
    let room = subst (λ (t : Tables). HasRoomFor t 3) (sym c.self.view_is) c.requires.room in
    record { room = iface_room _ c.args.call.now.iface c.counted-more.result room small }

pub returns-clause-keeps : goal.returns-clause-keeps
returns-clause-keeps c = λ past n k.
    let f = c.self.inside in
    let dir = c.args.call.now.dir in
    let packets = c.scaled-packets.result.0 in
    let bytes = c.scaled-packets.result.1 in
    let mark = c.in_ok-iface.iface.mark in
    let kept = subst (λ (t : Tables). Keeps t past n) (sym c.self.view_is) k in
    let adds = subst (λ (a : Amount). Adds nat_cmp f.ifaces c.add.new.self f.sizes.ifaces c.args.call.now.iface a (is_landed mark)) c.counted-more.ensures c.in_ok-iface.ensures.ok in
    let fact = iface_kept _ c.add.new.self past n c.args.call.now.iface dir packets bytes mark kept adds c.scaled-packets.ensures.chargeable in
    let whole = iface_is f.sizes past c.args.call.now packets bytes mark _ n
    c.if-not-iface_matches.ensures (ap (λ (p : ℕ × ℕ). p.0) c.scaled-packets.ensures.value, ap (λ (p : ℕ × ℕ). p.1) c.scaled-packets.ensures.value) fact.0 fact.1 in
    (whole.0 ∙ ap (λ (t : Tables). serial_iface t.sizes past c.args.call.now) c.self.view_is, whole.1)
