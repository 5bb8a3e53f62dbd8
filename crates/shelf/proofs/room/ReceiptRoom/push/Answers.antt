use Rattle.std.proofs.Common.{◌≡◌, ◌≤◌, ◌<◌, sym, subst, ◌++◌, ◌∷◌, [], ap, ◌∙◌, map, length, List, ℕ, vec_len, vec_capacity, arith, rules}
use Rattle.std.proofs.lemmas.List.{length-map}
use Rattle.std.specs.Prelude.{is_ok}
use Rattle.acct_base.specs.declared.receipt.LineReceipt.{LineReceipt}
use Rattle.shelf.specs.Counted.{counts_of}
use Rattle.shelf.specs.Kept.{kept_again}
use Rattle.shelf.specs.Room.{Room}
use Rattle.shelf.specs.declared.kept.Kept.{Kept}
use Rattle.shelf.proofs.CountLemmas.{one_more, one_more_fits}
use Rattle.shelf.proofs.FoundLemmas.{kept_more, placed, pushed, one_more_found}
use Rattle.shelf.proofs.room.ReceiptRoom.push.Goals as goal

pub with-self-inside-requires : goal.with-self-inside-requires
with-self-inside-requires c =
    let r = c.self.inside in
    let before = map (kept_again r.found.items) r.kept.items in
    let given : length before < r.room = subst (λ (v : Room). length v.receipts < v.room) (sym c.self.view_is) c.requires.room in
    record { fits = one_more_fits before c.args.item r.counts c.self.invariant.4 (omega (arith, given, c.self.ranges)) }

pub invariant_of-self : goal.invariant_of-self
invariant_of-self c =
    let r = c.self.inside in
    let k = c.keep.result.0 in
    let all = c.put_found-place.new.all.items in
    let item = c.args.item in
    let before = map (kept_again r.found.items) r.kept.items in
    let given : length before < r.room = subst (λ (v : Room). length v.receipts < v.room) (sym c.self.view_is) c.requires.room in
    let mapped : length before ≡ length r.kept.items = length-map r.kept.items (kept_again r.found.items) in
    let fits : vec_len r.kept < vec_capacity r.kept = omega (arith, given, mapped, r.kept.ok.0, c.self.invariant.2) in
    let k' = record k { found = c.put_found-place.result } in
    let kept = pushed (is_ok c.push.result) c.push.new.self.items r.kept.items (r.kept.items ++ k' ∷ []) c.push.ensures.items (c.push.ensures.succeeds fits) in
    let receipts = ap (map (kept_again all)) kept
    ∙ kept_more r.found.items all r.kept.items k' c.keep.result.1 item c.put_found-place.ensures.grew c.self.invariant.0 c.put_found-place.ensures.there
    (placed c.keep.result.1 k c.put_found-place.result ∙ c.keep.ensures) in
    let found = one_more_found r.found.items all r.kept.items c.push.new.self.items k' c.keep.result.1 c.put_found-place.ensures.grew c.self.invariant.0 c.put_found-place.ensures.there kept in
    let at_most : length all ≤ length c.push.new.self.items = search rules in
    let room : r.room ≤ vec_capacity c.push.new.self = search rules in
    let room_of_found : r.room ≤ vec_capacity c.put_found-place.new.all = search rules in
    (found, at_most, room, room_of_found, c.with-self-inside.ensures ∙ one_more before item r.counts c.self.invariant.4 ∙ sym (ap counts_of receipts))

pub returns : goal.returns
returns c =
    let r = c.self.inside in
    let k = c.keep.result.0 in
    let all = c.put_found-place.new.all.items in
    let item = c.args.item in
    let before = map (kept_again r.found.items) r.kept.items in
    let given : length before < r.room = subst (λ (v : Room). length v.receipts < v.room) (sym c.self.view_is) c.requires.room in
    let mapped : length before ≡ length r.kept.items = length-map r.kept.items (kept_again r.found.items) in
    let few : vec_len r.kept < vec_capacity r.kept = omega (arith, given, mapped, r.kept.ok.0, c.self.invariant.2) in
    let k' = record k { found = c.put_found-place.result } in
    let kept = pushed (is_ok c.push.result) c.push.new.self.items r.kept.items (r.kept.items ++ k' ∷ []) c.push.ensures.items (c.push.ensures.succeeds few) in
    ap (λ (ks : List Kept). record { receipts = map (kept_again all) ks; room = r.room }) kept
    ∙ ap (λ (xs : List (ℕ × LineReceipt)). record { receipts = xs; room = r.room })
    (kept_more r.found.items all r.kept.items k' c.keep.result.1 item c.put_found-place.ensures.grew c.self.invariant.0 c.put_found-place.ensures.there
    (placed c.keep.result.1 k c.put_found-place.result ∙ c.keep.ensures))
    ∙ ap (λ (v : Room). record { receipts = v.receipts ++ item ∷ []; room = v.room }) c.self.view_is
