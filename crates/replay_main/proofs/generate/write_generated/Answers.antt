use Rattle.std.proofs.Common.{◌≡◌, ◌≤◌, ℕ, List, length, take, ap, subst, ◌∙◌, arith, rules}
use Rattle.std.specs.Io.KnownBytes.{Appends}
use Rattle.outside.specs.Outside.{AppendsPrefix}
use Rattle.outside.proofs.Parts.{wrote_more, on_err}
use Rattle.replay_main.proofs.Copying.{read_front, wrote_front}
use Rattle.replay_main.proofs.generate.write_generated.Goals as goal

pub loop-read-preserved : goal.loop-read-preserved
loop-read-preserved g c =
    let written = g.K.Sink.written in
    let n = c.in_ok-read.read in
    let within : n ≤ length c.loop-read.source = search rules in
    let front : take n c.read.new.into ≡ take n c.loop-read.source = ap (take n) c.in_ok-read.ensures.given ∙ read_front c.loop-read.source c.loop-read.piece n within in
    record {
      wrote = wrote_more (written c.args.sink.now) (written c.loop-read.sink) (written c.write_all.new.sink) c.args.source.now c.loop-read.source c.read.new.self n c.loop-read.invariant.wrote
          (subst (λ (t : List ℕ). Appends (written c.loop-read.sink) (written c.write_all.new.sink) t) front c.in_ok-write_all.ensures.ok) c.in_ok-read.ensures.taken;
      count = omega (arith, c.loop-read.invariant.count, c.write_all.ensures.count);
    }

pub returns-in_err-write_all-clause-prefix : goal.returns-in_err-write_all-clause-prefix
returns-in_err-write_all-clause-prefix g c =
    let written = g.K.Sink.written in
    let n = c.in_ok-read.read in
    let within : n ≤ length c.loop-read.source = search rules in
    let front : take n c.read.new.into ≡ take n c.loop-read.source = ap (take n) c.in_ok-read.ensures.given ∙ read_front c.loop-read.source c.loop-read.piece n within in
    on_err c.from_residual-in_err-write_all.result
    (wrote_front (written c.args.sink.now) (written c.loop-read.sink) (written c.write_all.new.sink) c.args.source.now c.loop-read.source n c.loop-read.invariant.wrote
    (subst (λ (t : List ℕ). AppendsPrefix (written c.loop-read.sink) (written c.write_all.new.sink) t) front c.in_err-write_all.ensures.prefix))
