use Rattle.std.proofs.Common.{arith, rules}
use Rattle.replay_main.proofs.Feeding.{read_on}
use Rattle.replay_main.proofs.Taking.{taken_more}
use Rattle.replay_main.proofs.parts.Parts.next.Goals as goal

pub loop-bytes-smaller : goal.loop-bytes-smaller
loop-bytes-smaller g c =
    let i = c.loop-bytes.invariant in
    let e = c.in_ok-refill.ensures in
    grind (arith, e.counted, e.whole, c.cut.ensures.count, c.if-self-eq0.false, c.refill.ensures.reader.few, i.reader.few)

pub loop-bytes-preserved : goal.loop-bytes-preserved
loop-bytes-preserved g c =
    let e = c.in_ok-refill.ensures in
    record {
      reader = c.refill.ensures.reader;
      more = read_on _ _ _ c.args.self.now c.loop-bytes.self c.cut.new.self c.refill.new.self c.loop-bytes.invariant.more (search rules) c.cut.ensures.count e.cutter e.read e.counted;
      taken = taken_more _ _ _ c.args.self.now c.loop-bytes.self c.cut.new.self c.refill.new.self c.loop-bytes.invariant.taken c.cut.ensures.count c.refill.ensures.taken;
      count = omega (arith, c.loop-bytes.invariant.count, c.refill.ensures.faults);
    }

pub returns-in_err-refill-clause-taken : goal.returns-in_err-refill-clause-taken
returns-in_err-refill-clause-taken g c =
    taken_more _ _ _ c.args.self.now c.loop-bytes.self c.cut.new.self c.refill.new.self c.loop-bytes.invariant.taken c.cut.ensures.count c.refill.ensures.taken
