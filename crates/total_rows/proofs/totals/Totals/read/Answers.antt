use Rattle.std.proofs.Common.{◌≡◌, ap, subst}
use Rattle.acct_base.specs.Amounts.{IsAtMost}
use Rattle.acct_base.specs.Sums.{added as total_of}
use Rattle.total_rows.specs.Seats.{SeatState, known}
use Rattle.total_rows.proofs.ShownLemmas.{sole_calls}
use Rattle.total_rows.proofs.KnownLemmas.{knows_answer, knew_less, sole_reads_own, read_own, read_grows, calls_here, view_known}
use Rattle.total_rows.proofs.totals.Totals.read.Goals as goal

pub returns-clause-known : goal.returns-clause-known
returns-clause-known c = knows_answer c.args.self.now.calls c.args.key c.seat.inside.seat.me.0 c.read_key.new.seat.me.0 c.read_key.result c.read_key.ensures.read

pub returns-clause-least : goal.returns-clause-least
returns-clause-least c = subst (λ (s : SeatState). IsAtMost (known s c.args.key) c.read_key.result) c.seat.view_is (knew_less c.args.self.now.calls c.args.key c.seat.inside.seat.me.0 c.read_key.result (c.read_key.ensures.read).numbers)

pub returns-clause-sole : goal.returns-clause-sole
returns-clause-sole c = let s = c.seat.inside in let k = c.seat.invariant in let e = c.seat.view_is in λ sole.
    subst (λ (x : SeatState). c.read_key.result ≡ total_of x.adds c.args.key) e (sole_reads_own c.args.self.now.calls c.args.key s.seat.me.0 c.read_key.result (c.read_key.ensures.read).numbers
    (sole_calls s.left s.made s.seat.me.0.left s.seat.me.0.made c.args.seat.now.left c.args.seat.now.made c.args.self.now.calls k.left k.made (ap (λ (x : SeatState). x.left) e) (ap (λ (x : SeatState). x.made) e) sole))

pub returns-clause-own : goal.returns-clause-own
returns-clause-own c = λ sole key. let s = c.seat.inside in let k = c.seat.invariant in
    read_own c.args.self.now.calls c.args.key s.seat.me.0 c.read_key.new.seat.me.0 c.read_key.result c.read_key.ensures.read c.read_key.ensures.settled
    (calls_here s.left s.made s.seat.me.0.left s.seat.me.0.made c.args.self.now.calls k.left k.made sole) key

pub returns-clause-grows : goal.returns-clause-grows
returns-clause-grows c = λ key. subst (λ (s : SeatState). IsAtMost (known s key) (view_known c.read_key.new.seat.me.0 key)) c.seat.view_is
    (read_grows c.args.self.now.calls c.args.key c.seat.inside.seat.me.0 c.read_key.new.seat.me.0 c.read_key.result c.read_key.ensures.read key)
