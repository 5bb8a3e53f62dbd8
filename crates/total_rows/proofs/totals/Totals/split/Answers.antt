use Rattle.std.proofs.Common.{◌≡◌, ◌∙◌, ap, map, subst, sym}
use Rattle.acct_base.specs.Sums.{added as total_of}
use Rattle.atomic_table.specs.Table.{Me}
use Rattle.total_rows.specs.declared.plan.View.{View}
use Rattle.total_rows.specs.Seats.{SeatState, known}
use Rattle.total_rows.specs.Shown.{shown}
use Rattle.total_rows.proofs.ShownLemmas.{sole_calls}
use Rattle.total_rows.proofs.KnownLemmas.{view_known, split_known, settled_own, given_own, left_here}
use Rattle.total_rows.proofs.totals.Totals.split.Goals as goal

pub returns-clause-knows : goal.returns-clause-knows
returns-clause-knows c = λ key.
    ap (λ (m : Me (Unit {0}) View). view_known m.0 key) (c.cut-other.ensures.other).1
    ∙ split_known c.args.n key c.settle.new.seat.me.0
    ∙ ap (λ (m : Me (Unit {0}) View). view_known m.0 key) (c.settle.ensures.seat).2
    ∙ ap (λ (s : SeatState). known s key) c.seat.view_is

pub returns-clause-own : goal.returns-clause-own
returns-clause-own c = let s = c.seat.inside in let k = c.seat.invariant in let e = c.seat.view_is in (
  λ sole key. subst (λ (x : SeatState). known x key ≡ total_of x.adds key) e (settled_own c.args.self.now.calls s.seat.me.0 c.settle.ensures.settled
      (sole_calls s.left s.made s.seat.me.0.left s.seat.me.0.made c.args.seat.now.left c.args.seat.now.made c.args.self.now.calls k.left k.made (ap (λ (x : SeatState). x.left) e) (ap (λ (x : SeatState). x.made) e) sole) key),
  λ sole key. returns-clause-knows c key
      ∙ ap (λ (x : SeatState). known x key) (sym e)
      ∙ given_own c.args.self.now.calls c.args.n s.seat.me.0 c.settle.ensures.settled (left_here c.args.n s.left s.seat.me.0.left c.args.seat.now.left c.requires.calls k.left (ap (λ (x : SeatState). x.left) e)) sole key
      ∙ sym (ap (λ (m : Me (Unit {0}) View). total_of (map shown m.0.adds) key) (c.cut-other.ensures.other).1),
)
