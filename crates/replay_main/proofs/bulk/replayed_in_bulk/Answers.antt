use Rattle.std.proofs.Common.{◌≡◌, Result, Err, refl, sym, ap, subst, ◌∙◌, List, ℕ, arith}
use Rattle.std.specs.Prelude.{IfErr}
use Rattle.std.proofs.lemmas.Result.{err_from_is_err_and}
use Rattle.replay_main.specs.declared.fault.Fault.{Fault}
use Rattle.replay_main.specs.declared.fault.Fault.TheVariants as fault
use Rattle.replay_main.specs.Run.{DecidesOn}
use Rattle.replay_main.proofs.InBulk.{only_memory}
use Rattle.replay_main.proofs.bulk.replayed_in_bulk.Goals as goal

pub returns-in_err-report-clause-memory : goal.returns-in_err-report-clause-memory
returns-in_err-report-clause-memory g c =
    let f : Fault = c.in_err-report.field-0.0 in
    let e = c.in_err-report.ensures in
    let p = err_from_is_err_and c.from_residual.result c.from_residual.ensures.1 in
    let memory : f ≡ fault.Memory = only_memory _ f c.requires.rounds (λ is. let rose = e.read_fault (ap Err is) in absurd (omega (arith, rose)))
    (λ of. subst (λ (t : List ℕ). DecidesOn f t) c.new-source.ensures (e.decides f refl of)) e.faults in
    subst (λ (r : Result _ Fault). IfErr r (λ (f : Fault). f ≡ fault.Memory)) (sym p.1) (p.2 ∙ memory)
