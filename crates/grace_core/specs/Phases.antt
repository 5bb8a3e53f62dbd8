-- What a good state says of phases, sides and snapshots.
use Rattle.std.specs.Prelude.{◌≡◌, ◌≢◌, ◌⊎◌, ℕ, ◌+◌, List}
use Rattle.grace_core.specs.declared.view.HookView.{HookView}
use Rattle.grace_core.specs.declared.state.CollectAt.{CollectAt}
use Rattle.grace_core.specs.declared.state.CollectAt.TheVariants.{Resting, Waiting, Draining}
use Rattle.grace_core.specs.declared.state.State.{State}
use Rattle.grace_core.specs.declared.event.Event.{Event}
use Rattle.grace_core.specs.declared.event.Event.TheVariants as event
use Rattle.grace_core.specs.Sums.{Within}
use Rattle.grace_core.specs.Good.{EachView, side}

-- No view is inside the phase.
abbrev pub NobodyInside : ℕ → List HookView → Type 0
NobodyInside phase views = EachView views (λ view. Within (λ p. p ≢ phase) view.at)

-- The phase is in use: it is the live one, or the one before it while the collector waits.
abbrev pub IsUsed : ℕ → ℕ → CollectAt → Type 0
IsUsed phase live Resting = phase ≡ live
IsUsed phase live (Waiting entries) = (phase ≡ live) ⊎ (phase + 1 ≡ live)
IsUsed phase live (Draining next taken) = phase ≡ live

-- The collector waits for no hook: one side is not in use.
abbrev pub WaitsForNobody : CollectAt → Type 0
WaitsForNobody Resting = Unit {0}
WaitsForNobody (Waiting entries) = ⊥
WaitsForNobody (Draining next taken) = Unit {0}

-- The words of the side that is not live.
abbrev pub other_side : State → List ℕ
other_side s = side s.rows s.words (s.collector.phase + 1)

-- The event is a hook's.
abbrev pub IsOfHook : Event → Type 0
IsOfHook event.Flip = ⊥
IsOfHook event.LoadExits = ⊥
IsOfHook event.TakeWord = ⊥
IsOfHook event.Reopen = ⊥
IsOfHook _ = Unit {0}
