use Rattle.std.proofs.Common.{arith}
use Rattle.outside.proofs.Parts.{wrote_more}
use Rattle.outside.proofs.whole.write_all.Goals as goal

pub loop-rest-preserved : goal.loop-rest-preserved
loop-rest-preserved g c = record {
  wrote = wrote_more (g.K.Sink.written c.args.sink.now) (g.K.Sink.written c.loop-rest.sink) (g.K.Sink.written c.write.new.self) c.args.bytes.now c.loop-rest.rest.now c.split_at.result.1.now c.in_ok-n.n c.loop-rest.invariant.wrote c.in_ok-n.ensures.bytes c.split_at.ensures.back;
  count = omega (arith, c.write.ensures.count);
}
