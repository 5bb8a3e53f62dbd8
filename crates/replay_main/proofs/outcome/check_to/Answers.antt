use Rattle.std.proofs.Common.{◌≡◌, subst, List, ℕ, rules}
use Rattle.std.specs.String.{string_bytes}
use Rattle.outside.specs.Outside.{AppendsPrefix}
use Rattle.replay_main.proofs.outcome.check_to.Goals as goal

pub returns-clause-cut_off : goal.returns-clause-cut_off
returns-clause-cut_off g c = λ _.
    let same : c.as_bytes.result.now ≡ string_bytes c.in-Ok.line = search rules in
    let front = AppendsPrefix (g.K.Sink.written c.args.sink.now) (g.K.Sink.written c.write_all.new.sink) in
    let at = c.in-Ok.ensures.gives in
    record { script = at.0; read = at.1; text = _; gives = at.2; writes = subst (λ (t : List ℕ). front t) same c.in-Err-write_all.ensures.prefix }
