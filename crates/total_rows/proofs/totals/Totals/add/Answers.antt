use Rattle.std.proofs.Common.{◌≡◌, sym, subst, map}
use Rattle.acct_base.specs.Amounts.{IsAtMost}
use Rattle.acct_base.specs.Sums.{added as total_of}
use Rattle.total_rows.specs.declared.plan.View.{View}
use Rattle.total_rows.specs.Seats.{SeatState, known}
use Rattle.total_rows.specs.Shown.{shown}
use Rattle.total_rows.proofs.KnownLemmas.{view_known, add_grows, add_own, calls_begun}
use Rattle.total_rows.proofs.totals.Totals.add.Goals as goal

pub returns-clause-grows : goal.returns-clause-grows
returns-clause-grows c = λ key. let m = c.seat.inside.seat.me.0 in
    subst (λ (s : SeatState × View). IsAtMost (known s.0 key) (view_known s.1 key)) (λ i. (c.seat.view_is i, sym c.add_job-landed.ensures.view i))
    (add_grows m record { job = record { key = c.args.key; dir = c.args.dir; packets = c.args.packets; bytes = c.args.bytes }; landed = c.add_job-landed.result } key)

pub returns-clause-own : goal.returns-clause-own
returns-clause-own c = λ sole key. let s = c.seat.inside in let k = c.seat.invariant in
    subst (λ (x : View). view_known x key ≡ total_of (map shown x.adds) key) (sym c.add_job-landed.ensures.view)
    (add_own c.args.self.now.calls s.seat.me.0 record { job = record { key = c.args.key; dir = c.args.dir; packets = c.args.packets; bytes = c.args.bytes }; landed = c.add_job-landed.result }
    c.add_job-landed.ensures.settled (calls_begun s.left s.made s.seat.me.0.left s.seat.me.0.made c.args.self.now.calls k.left k.made sole) key)
