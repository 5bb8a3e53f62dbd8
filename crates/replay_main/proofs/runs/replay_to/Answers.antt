use Rattle.std.proofs.Common.{refl, rules}
use Rattle.replay_main.proofs.Outsides.{read_script, replayed_script}
use Rattle.replay_main.proofs.runs.replay_to.Goals as goal

pub returns-in-Ok-write_dump-clause-done : goal.returns-in-Ok-write_dump-clause-done
returns-in-Ok-write_dump-clause-done g c = λ _.
    let at = c.in-Ok.ensures.report in
    record { script = at.0; read = at.1; text = _; gives = (at.2, refl); writes = c.in-Ok-write_dump.ensures.ok }

pub returns-in-Err-WriteFault-clause-cut_off : goal.returns-in-Err-WriteFault-clause-cut_off
returns-in-Err-WriteFault-clause-cut_off g c = λ _.
    let at = c.in-Ok.ensures.report in
    record { script = at.0; read = at.1; text = _; gives = (at.2, refl); writes = c.in-Err-WriteFault.ensures.prefix (search rules) }

pub returns-in-Ok-write_dump-clause-script : goal.returns-in-Ok-write_dump-clause-script
returns-in-Ok-write_dump-clause-script g c = λ _.
    let at = c.in-Ok.ensures.report in
    read_script _ _ at.0 at.1 (replayed_script at.0 c.in-Ok.report _ _ at.2)
