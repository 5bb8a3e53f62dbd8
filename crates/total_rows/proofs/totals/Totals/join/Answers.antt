use Rattle.std.proofs.Common.{◌≡◌, ap, sym, subst, map}
use Rattle.acct_base.specs.Sums.{added as total_of}
use Rattle.atomic_table.specs.Table.{Me}
use Rattle.total_rows.specs.declared.plan.View.{View}
use Rattle.total_rows.specs.Plays.{joined}
use Rattle.total_rows.specs.Shown.{shown}
use Rattle.total_rows.specs.Seats.{SeatState, known, greater}
use Rattle.total_rows.proofs.KnownLemmas.{view_known, join_known, settled_own, sole_join, greater_first, greater_second}
use Rattle.total_rows.proofs.totals.Totals.join.Goals as goal

pub returns-clause-knows : goal.returns-clause-knows
returns-clause-knows c = λ key. let v = c.seat.inside.seat.me.0 in let w = c.other.inside.seat.me.0 in
    subst (λ (x : View). view_known x key ≡ greater (greater (known c.args.seat.now key) (known c.args.other key)) (total_of (map shown x.adds) key))
    (sym (ap (λ (m : Me (Unit {0}) View). m.0) (c.merge.ensures.seat).2))
    (subst (λ (s : SeatState × SeatState). view_known (joined v w) key ≡ greater (greater (known s.0 key) (known s.1 key)) (total_of (map shown (joined v w).adds) key)) (λ i. (c.seat.view_is i, c.other.view_is i)) (join_known key v w))

pub returns-clause-own : goal.returns-clause-own
returns-clause-own c = λ sole key. let s = c.seat.inside in let o = c.other.inside in let k = c.seat.invariant in let l = c.other.invariant in
    subst (λ (x : View). view_known x key ≡ total_of (map shown x.adds) key) (sym (ap (λ (m : Me (Unit {0}) View). m.0) (c.merge.ensures.seat).2))
    (settled_own c.args.self.now.calls (joined s.seat.me.0 o.seat.me.0) c.merge.ensures.settled
    (sole_join s.left s.made o.left o.made s.seat.me.0.left s.seat.me.0.made o.seat.me.0.left o.seat.me.0.made c.args.self.now.calls k.left k.made l.left l.made sole) key)

pub returns-clause-grows : goal.returns-clause-grows
returns-clause-grows c = λ key. greater_first (known c.args.seat.now key) (known c.args.other key) _ _ (returns-clause-knows c key)

pub returns-clause-learns : goal.returns-clause-learns
returns-clause-learns c = λ key. greater_second (known c.args.seat.now key) (known c.args.other key) _ _ (returns-clause-knows c key)
