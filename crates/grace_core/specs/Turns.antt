-- What the code of the machine takes from a state before it makes an event.
use Rattle.std.specs.Prelude.{ℕ, ◌&&◌, nat_lt, Option, None, Some}
use Rattle.acct_base.specs.declared.charge.Job.{Job}
use Rattle.grace_core.specs.declared.view.At.{At}
use Rattle.grace_core.specs.declared.view.At.TheVariants.{Inside, First, Second}
use Rattle.grace_core.specs.declared.view.Turn.{Turn}
use Rattle.grace_core.specs.Machine.{is_valid_job, same_job, where_passes}

-- A job that is to claim the place of a turn.
abbrev pub turn_at : ℕ → ℕ → Job → ℕ → Turn
turn_at phase charges job turn = record { phase = phase; charges = charges; job = job; turn = turn }

-- The turn at which a view claims a first key for a job: the first, or the one that it is at with that job.
abbrev pub first_turn : Job → At → Option Turn
first_turn job (Inside phase charges) = where_passes (nat_lt charges 2 && is_valid_job job) (turn_at phase charges job 0)
first_turn job (First phase charges own turn) = where_passes (same_job own job) (turn_at phase charges own turn)
first_turn job _ = None

-- The turn at which a view claims a second key.
abbrev pub second_turn : At → Option Turn
second_turn (Second phase charges job turn) = Some (turn_at phase charges job turn)
second_turn _ = None
