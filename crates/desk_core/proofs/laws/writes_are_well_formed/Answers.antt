use Rattle.std.proofs.Common.{sym, subst}
use Rattle.std.specs.List.{AllByRecursion}
use Rattle.acct_base.specs.Registers.{IsWellFormed}
use Rattle.desk_core.proofs.FormLemmas.{writes_formed}
use Rattle.desk_core.proofs.laws.writes_are_well_formed.Goals as goal

pub returns-clause-commands : goal.returns-clause-commands
returns-clause-commands c = λ journal privileged limits command range formed. writes_formed journal formed privileged limits command range

pub returns-clause-decisions : goal.returns-clause-decisions
returns-clause-decisions c = λ book decision d formed.
    subst (AllByRecursion IsWellFormed) (sym d.writes) (writes_formed book.journal formed book.privileged book.limits d.command d.range)
