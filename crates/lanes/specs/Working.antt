-- The steps of a section. Lanes and desk begin with what a first meeting left, and each goes its own way until the second: nothing ties a step of one to a step of another.
use Rattle.std.specs.Prelude.{◌≡◌, ℕ, List}
use Rattle.acct_base.specs.declared.sizes.Sizes.{Sizes}
use Rattle.shelf.specs.declared.report.SectionOut.{SectionOut}
use Rattle.captures.specs.Calls.{SectionCalls}
use Rattle.hook_engine.specs.Passes.{Met, MetApps}
use Rattle.lanes.specs.Progress.{Progress}
use Rattle.lanes.specs.Lanes.{LanesRan}
use Rattle.lanes.specs.Desks.{DeskRan}

-- The crew's pass met the desk's writer and the collector's seats: it knows the whole journal and the phase, and the collector learned what it added to apps.
pub record CrewMet (budget : ℕ) (before after : Progress) : Type 0 where
  pub met : Met before.journal before.gathered.phase before.pass after.pass
  pub met_apps : MetApps budget after.pass before.gathered.known after.gathered.known
  pub journal : after.journal ≡ before.journal
  pub gathered : after.gathered ≡ record before.gathered { known = after.gathered.known }

module _ (budget : ℕ) (privileged : List ℕ) (sizes : Sizes) where
  -- The lanes made their calls, and the desk its commands.
  pub record WentOn (before : Progress) (calls : SectionCalls) (after : Progress) (out : SectionOut) : Type 0 where
    pub lanes : LanesRan budget sizes before.pass calls.lanes out.lanes after.pass
    pub desk : DeskRan privileged sizes.regs before.journal before.gathered calls.desk out.replies after.journal after.gathered

  -- So they did between two meetings.
  pub record Worked (before : Progress) (calls : SectionCalls) (after : Progress) (out : SectionOut) : Type 0 where
    pub start : Progress
    pub end : Progress
    pub met : CrewMet budget before start
    pub went_on : WentOn start calls end out
    pub met_again : CrewMet budget end after
