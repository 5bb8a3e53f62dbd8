-- What the views of the hooks add up to.
use Rattle.std.specs.Prelude.{ℕ, ◌+◌, ◌==◌, Bool, if◌then◌else◌, not, ◌&&◌, List, [], ◌∷◌, ◌++◌, sum_by}
use Rattle.acct_base.specs.declared.label.Label.{Label}
use Rattle.acct_base.specs.declared.charge.Charge.{Charge}
use Rattle.acct_base.specs.Amounts.{same_label}
use Rattle.row_probe.specs.Keys.{pack1}
use Rattle.row_probe.specs.Places.{place_of}
use Rattle.grace_core.specs.declared.view.HookView.{HookView}
use Rattle.grace_core.specs.declared.view.At.{At}
use Rattle.grace_core.specs.declared.view.At.TheVariants.{Outside, Inside, First, Second, Adding, Gone}
use Rattle.grace_core.specs.Machine.{direction}

-- This is 1 where the view is inside the phase, and else 0.
abbrev pub inside : ℕ → At → ℕ
inside n Outside = 0
inside n (Inside phase charges) = if phase == n then 1 else 0
inside n (First phase charges job turn) = if phase == n then 1 else 0
inside n (Second phase charges job turn) = if phase == n then 1 else 0
inside n (Adding phase charges job row packets_done) = if phase == n then 1 else 0
inside n Gone = 0

-- Where the view is inside a phase, P holds of the phase.
abbrev pub Within : (ℕ → Type 0) → At → Type 0
Within P Outside = Unit {0}
Within P (Inside phase charges) = P phase
Within P (First phase charges job turn) = P phase
Within P (Second phase charges job turn) = P phase
Within P (Adding phase charges job row packets_done) = P phase
Within P Gone = Unit {0}

-- A view that was joined away counts no more.
abbrev pub if_live : At → ℕ → ℕ
if_live Gone n = 0
if_live _ n = n

-- How many views are inside a phase.
abbrev pub insiders : ℕ → List HookView → ℕ
insiders n views = sum_by (λ (view : HookView). inside n view.at) views

-- The calls of a view, made or not.
abbrev pub share : HookView → ℕ
share view = if_live view.at (view.left + view.made)

-- The calls that a view made.
abbrev pub makes : HookView → ℕ
makes view = if_live view.at view.made

-- The calls of all views.
abbrev pub shares : List HookView → ℕ
shares views = sum_by share views

-- The calls that all views made.
abbrev pub made_sum : List HookView → ℕ
made_sum views = sum_by makes views

-- What is asked of the views' standings at the rows of a phase.
pub data Probe : Type 0 where
  second_at : ℕ → ℕ → Probe
  adding_at : ℕ → Probe
  pending_at : ℕ → ℕ → Probe

-- `second_at row key`: 1 where the view stands Second at the row, with that first key. `adding_at row`: 1 where it stands Adding there.
-- `pending_at row dir`: the packets that it added there in that direction, and whose bytes are still to come.
abbrev pub weight : ℕ → ℕ → At → Probe → ℕ
weight rows n Outside q = 0
weight rows n (Inside p c) q = 0
weight rows n (First p c j t) q = 0
weight rows n (Second p c j t) (second_at i k) = if p == n && (place_of j.label t rows == i && pack1 j.label == k) then 1 else 0
weight rows n (Second p c j t) (adding_at i) = 0
weight rows n (Second p c j t) (pending_at i e) = 0
weight rows n (Adding p c j r d) (second_at i k) = 0
weight rows n (Adding p c j r d) (adding_at i) = if p == n && r == i then 1 else 0
weight rows n (Adding p c j r d) (pending_at i e) = if p == n && (r == i && (d && direction j.dir == e)) then j.packets else 0
weight rows n Gone q = 0

-- What all views' standings in a phase add up to.
abbrev pub stand : ℕ → ℕ → List HookView → Probe → ℕ
stand rows n views q = sum_by (λ (view : HookView). weight rows n view.at q) views

-- What is asked of the charges of a phase.
pub data Measure : Type 0 where
  landed : Label → Measure
  missed : Label → Measure
  packets : Label → ℕ → Measure
  bytes : Label → ℕ → Measure

-- The charge is one of the phase, to the label.
abbrev pub is_to : ℕ → Label → Charge → Bool
is_to n label c = c.phase == n && same_label c.job.label label

-- `landed label` and `missed label`: 1 where it is a charge to the label that landed, or did not. `packets label dir` and `bytes label dir`: those
-- of a landed charge to the label in that direction.
abbrev pub measure : ℕ → Measure → Charge → ℕ
measure n (landed l) c = if c.landed && is_to n l c then 1 else 0
measure n (missed l) c = if not c.landed && is_to n l c then 1 else 0
measure n (packets l e) c = if c.landed && (is_to n l c && direction c.job.dir == e) then c.job.packets else 0
measure n (bytes l e) c = if c.landed && (is_to n l c && direction c.job.dir == e) then c.job.bytes else 0

-- What the charges of all views add up to.
abbrev pub tally : ℕ → List HookView → Measure → ℕ
tally n views m = sum_by (λ (view : HookView). sum_by (measure n m) view.list) views

-- The charges of all views.
abbrev pub charges_of : List HookView → List Charge
charges_of [] = []
charges_of (view ∷ views) = view.list ++ charges_of views
