use Rattle.std.proofs.Common.{◌≡◌, ◌≤◌, ◌+◌, ℕ, List, ap, sym, subst, arith}
use Rattle.std.specs.Mem.Slots.{slots_items}
use Rattle.std.specs.List.Sorted.{IsPermutation}
use Rattle.acct_base.specs.declared.amount.Amount.{Amount}
use Rattle.acct_base.specs.Sums.{AreTotals}
use Rattle.total_rows.specs.Seats.{TotalsState, SeatState}
use Rattle.total_rows.proofs.EndLemmas.{end_is}
use Rattle.total_rows.proofs.totals.Totals.end.Goals as goal

enough : (n l m l' m' l'' m'' : ℕ) → n ≤ l'' + m'' → l ≡ l' → m ≡ m' → l ≡ l'' → m ≡ m'' → n ≤ l' + m'
enough n l m l' m' l'' m'' h e f g i = omega (arith, h, e, f, g, i)

sole_too : (n l m l' m' l'' m'' : ℕ) → l' + m' ≡ n → l ≡ l' → m ≡ m' → l ≡ l'' → m ≡ m'' → l'' + m'' ≡ n
sole_too n l m l' m' l'' m'' h e f g i = omega (arith, h, e, f, g, i)

pub collected-totals-requires-clause-keys : goal.collected-totals-requires-clause-keys
collected-totals-requires-clause-keys c = let t = c.self.inside in let s = c.seat.inside in let k = c.seat.invariant in
    (end_is t.table.shared.key t.plan (slots_items c.close_with-closed.result.words) (slots_items c.close_with-closed.result.slots) s.seat.id s.seat.me.0 c.self.invariant.keyed c.close_with-closed.ensures.values.2
    (enough t.plan.calls s.left s.made s.seat.me.0.left s.seat.me.0.made c.args.seat.left c.args.seat.made (subst (λ (x : TotalsState). x.calls ≤ c.args.seat.left + c.args.seat.made) (sym c.self.view_is) c.requires.all) k.left k.made (ap (λ (x : SeatState). x.left) c.seat.view_is) (ap (λ (x : SeatState). x.made) c.seat.view_is)) k.rests).keys

pub returns-clause-totals : goal.returns-clause-totals
returns-clause-totals c = let t = c.self.inside in let s = c.seat.inside in let k = c.seat.invariant in
    let e = end_is t.table.shared.key t.plan (slots_items c.close_with-closed.result.words) (slots_items c.close_with-closed.result.slots) s.seat.id s.seat.me.0 c.self.invariant.keyed c.close_with-closed.ensures.values.2
    (enough t.plan.calls s.left s.made s.seat.me.0.left s.seat.me.0.made c.args.seat.left c.args.seat.made (subst (λ (x : TotalsState). x.calls ≤ c.args.seat.left + c.args.seat.made) (sym c.self.view_is) c.requires.all) k.left k.made (ap (λ (x : SeatState). x.left) c.seat.view_is) (ap (λ (x : SeatState). x.made) c.seat.view_is)) k.rests in
    subst (λ (x : TotalsState × SeatState). AreTotals x.0.rows x.1.adds c.sorted_by_key.result.items) (λ i. (c.self.view_is i, c.seat.view_is i))
    (e.totals c.sorted_by_key.result.items (subst (λ (l : List (ℕ × Amount)). IsPermutation l c.sorted_by_key.result.items) c.collected-totals.ensures c.sorted_by_key.ensures.same) c.sorted_by_key.ensures.ascends)

pub returns-clause-sole : goal.returns-clause-sole
returns-clause-sole c = let t = c.self.inside in let s = c.seat.inside in let k = c.seat.invariant in
    let e = end_is t.table.shared.key t.plan (slots_items c.close_with-closed.result.words) (slots_items c.close_with-closed.result.slots) s.seat.id s.seat.me.0 c.self.invariant.keyed c.close_with-closed.ensures.values.2
    (enough t.plan.calls s.left s.made s.seat.me.0.left s.seat.me.0.made c.args.seat.left c.args.seat.made (subst (λ (x : TotalsState). x.calls ≤ c.args.seat.left + c.args.seat.made) (sym c.self.view_is) c.requires.all) k.left k.made (ap (λ (x : SeatState). x.left) c.seat.view_is) (ap (λ (x : SeatState). x.made) c.seat.view_is)) k.rests in
    subst (λ (x : TotalsState). c.args.seat.left + c.args.seat.made ≡ x.calls) c.self.view_is
    (sole_too t.plan.calls s.left s.made s.seat.me.0.left s.seat.me.0.made c.args.seat.left c.args.seat.made e.sole k.left k.made (ap (λ (x : SeatState). x.left) c.seat.view_is) (ap (λ (x : SeatState). x.made) c.seat.view_is))
