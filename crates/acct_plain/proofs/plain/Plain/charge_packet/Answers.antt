use Rattle.std.proofs.Common.{ap, subst, sym, ◌∙◌, ℕ}
use Rattle.std.specs.Ordering.{nat_cmp}
use Rattle.acct_base.specs.declared.amount.Amount.{Amount}
use Rattle.acct_base.specs.Landings.{same_number}
use Rattle.acct_base.specs.Receipts.{hook_call, is_landed}
use Rattle.acct_base.proofs.Keys.{nat_agree}
use Rattle.acct_plain.specs.Serial.{serial_receipt}
use Rattle.acct_plain.specs.Ledgers.{Adds}
use Rattle.acct_plain.specs.Charging.{AddsPacket}
use Rattle.acct_plain.specs.Kept.{Tables, Keeps, HasRoomFor, IsSmall}
use Rattle.acct_plain.proofs.Keeping.{app_room, label_room, small_in, same_numbers, packet_kept}
use Rattle.acct_plain.proofs.Hooks.{counted_is}
use Rattle.acct_plain.proofs.Undoing.{put_back, add_elsewhere}
use Rattle.acct_plain.proofs.plain.Plain.charge_packet.Goals as goal

pub add-requires : goal.add-requires
add-requires c =
    let small = subst IsSmall (sym c.counted-more.ensures) (small_in c.args.call.now.dir c.scaled-packets.result.0 c.scaled-packets.result.1 c.scaled-packets.ensures.chargeable) in
    let room = subst (λ (t : Tables). HasRoomFor t 3) (sym c.self.view_is) c.requires.room in
    record { room = app_room _ c.args.label.uid c.counted-more.result room small }

pub charge-requires : goal.charge-requires
charge-requires c =
    let small = subst IsSmall (sym c.counted-more.ensures) (small_in c.args.call.now.dir c.scaled-packets.result.0 c.scaled-packets.result.1 c.scaled-packets.ensures.chargeable) in
    let room = subst (λ (t : Tables). HasRoomFor t 3) (sym c.self.view_is) c.requires.room in
    record { room = label_room _ c.counted-more.result room small }

pub returns-in-Ok-clause-keeps : goal.returns-in-Ok-clause-keeps
returns-in-Ok-clause-keeps c = λ past n k e there.
    let f = c.self.inside in
    let dir = c.args.call.now.dir in
    let packets = c.scaled-packets.result.0 in
    let bytes = c.scaled-packets.result.1 in
    let marks = c.in-Ok.rows in
    let app = c.in_ok-app.app.mark in
    let small = c.scaled-packets.ensures.chargeable in
    let kept = subst (λ (t : Tables). Keeps t past n) (sym c.self.view_is) k in
    let adds = subst (λ (a : Amount). AddsPacket f.rows c.charge.new.self f.sizes.rows c.args.label a marks) c.counted-more.ensures c.in-Ok.ensures.ok in
    let on_app = subst (λ (a : Amount). Adds nat_cmp f.apps c.add.new.self f.sizes.apps c.args.label.uid a (is_landed app)) c.counted-more.ensures c.in_ok-app.ensures.ok in
    let fact = packet_kept _ past n c.args.label dir packets bytes marks app c.charge.new.self c.add.new.self kept adds on_app small in
    let whole = counted_is f.sizes past (hook_call c.args.call.now) c.args.receipt c.args.label packets bytes marks.tag marks.plain app _ n e there
    (ap (λ (p : ℕ × ℕ). p.0) c.scaled-packets.ensures.value, ap (λ (p : ℕ × ℕ). p.1) c.scaled-packets.ensures.value)
    fact.tag_is fact.plain_is fact.app_is fact.keeps in
    (whole.0 ∙ ap (λ (t : Tables). serial_receipt t.sizes past (hook_call c.args.call.now)) c.self.view_is, whole.1)

pub returns-in-Err-clause-err : goal.returns-in-Err-clause-err
returns-in-Err-clause-err c =
    let f = c.self.inside in
    let back = put_back nat_cmp same_number nat_agree same_numbers f.apps c.add.new.self c.set.new.self c.args.label.uid c.in_ok-app.app.before
    c.add.ensures.ordered c.set.ensures.ordered
    (add_elsewhere nat_cmp f.apps c.add.new.self f.sizes.apps c.args.label.uid c.counted-more.result (is_landed c.in_ok-app.app.mark) c.in_ok-app.ensures.ok)
    c.in_ok-app.ensures.before c.set.ensures.sets in
    (λ i. record {
      sizes = f.sizes;
      book = f.book;
      phases = f.shelf.phases;
      rows = c.in-Err.ensures.err i;
      apps = back i;
      ifaces = f.ifaces;
      recorded = f.recorded;
    }) ∙ c.self.view_is
