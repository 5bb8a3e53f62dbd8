use Rattle.std.proofs.Common.{◌≡◌, ◌∙◌, ap, Err}
use Rattle.std.proofs.lemmas.Result.{err_from_is_err_and}
use Rattle.replay_main.specs.declared.fault.Fault.TheVariants as fault
use Rattle.replay_main.specs.Faults.{resolve_fault}
use Rattle.replay_main.proofs.EngineRan.{no_packet_is}
use Rattle.replay_main.proofs.Outsides.{err_is}
use Rattle.replay_main.proofs.on_engine.run_one.Goals as goal

pub returns-in_err-calls-clause-missing : goal.returns-in_err-calls-clause-missing
returns-in_err-calls-clause-missing g c = λ line is.
    let p = err_from_is_err_and c.from_residual.result c.from_residual.ensures.1 in
    let e : fault.NoPacket line ≡ resolve_fault c.in_err-calls.field-0.0 = err_is _ _ _ is p.1 ∙ p.2 in
    c.in_err-calls.ensures.missing line (ap Err (no_packet_is c.in_err-calls.field-0.0 line e))
