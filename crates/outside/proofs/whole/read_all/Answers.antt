use Rattle.std.proofs.Common.{rules, ◌+◌, ◌≤◌, length, take, arith, vec_len}
use Rattle.std.proofs.lemmas.List.{length-take}
use Rattle.outside.proofs.Parts.{consumes_up_to, on_err}
use Rattle.outside.proofs.whole.read_all.Goals as goal

pub returns-in_err-extend_from_slice-clause-prefix :
    goal.returns-in_err-extend_from_slice-clause-prefix
returns-in_err-extend_from_slice-clause-prefix g c =
    let left = g.S.Source.left in
    let piece = take c.in_ok-n.n c.read.new.into in
    let within : vec_len c.loop-piece.bytes + c.in_ok-n.n ≤ c.args.most = search rules in
    let few : length c.loop-piece.bytes.items + length piece ≤ c.args.most =
    omega (arith, within, length-take c.in_ok-n.n c.read.new.into) in
    on_err c.from_residual-in_err-extend_from_slice.result
    (consumes_up_to (left c.args.source.now) (left c.loop-piece.source) (left c.read.new.self)
    c.loop-piece.bytes.items piece c.args.most few c.loop-piece.invariant.read c.in_ok-n.ensures.bytes)
