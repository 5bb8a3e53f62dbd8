use Rattle.desk_core.specs.Commands.{writes}
use Rattle.desk_core.proofs.DecisionLemmas.{within-decided, within-commanded}
use Rattle.desk_core.proofs.ValueLemmas.{within-taken_front}
use Rattle.desk_core.proofs.laws.commands_keep_limits.Goals as goal

pub returns-clause-all : goal.returns-clause-all
returns-clause-all c = λ journal privileged limits command within. within-commanded journal privileged limits command within

pub returns-clause-in_turn : goal.returns-clause-in_turn
returns-clause-in_turn c = λ journal privileged limits command n within.
    within-taken_front limits journal (writes journal privileged limits command) n (within-commanded journal privileged limits command within)

pub returns-clause-decisions : goal.returns-clause-decisions
returns-clause-decisions c = λ book decision n d within. within-taken_front book.limits book.journal decision.writes n (within-decided book decision d within)
