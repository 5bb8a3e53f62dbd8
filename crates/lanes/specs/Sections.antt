-- What a section does to its crew, whatever the order in which its lanes and its desk took their steps.
use Rattle.std.specs.Prelude.{◌≡◌, ℕ, ◌+◌, ◌≤◌, List, [], ◌∷◌, ◌++◌, length, flat_map}
use mathlib.Core.Logic.{◌⊎◌}
use Rattle.acct_base.specs.declared.sizes.Sizes.{Sizes}
use Rattle.acct_base.specs.Amounts.{IsAtMost}
use Rattle.acct_base.specs.Landings.{LandInTurn, AddInTurn}
use Rattle.acct_base.specs.Receipts.{charges, app_adds, iface_adds}
use Rattle.acct_base.specs.Sums.{added}
use Rattle.shelf.specs.declared.report.SectionOut.{SectionOut}
use Rattle.captures.specs.Calls.{SectionCalls}
use Rattle.captures.specs.Honest.{section_pairs}
use Rattle.captures.specs.Runs.{Past, SectionRan}
use Rattle.hook_engine.specs.Passes.{recorded_reads}
use Rattle.lanes.specs.Lanes.{spent_by}
use Rattle.lanes.specs.Progress.{Progress, IsWhole, past_of}

-- A section whose receipts do not depend on the order of steps: it has one lane at most, and no desk line beside a call.
pub record IsSerialSection (calls : SectionCalls) : Type 0 where
  pub one : length calls.lanes ≤ 1
  pub apart : (calls.desk ≡ []) ⊎ (flat_map (λ lane. lane) calls.lanes ≡ [])

-- Each charge and add of a section has the mark that a replay on one thread gives it, after the lists as they stood before it.
pub record RanInTurn (sizes : Sizes) (before : Past) (calls : SectionCalls) (out : SectionOut) : Type 0 where
  pub land : LandInTurn sizes.rows before.charges (flat_map charges (section_pairs calls out))
  pub on_apps : AddInTurn sizes.apps before.apps (flat_map app_adds (section_pairs calls out))
  pub on_ifaces : AddInTurn sizes.ifaces before.ifaces (flat_map iface_adds (section_pairs calls out))

module _ (budget : ℕ) (privileged : List ℕ) (sizes : Sizes) where
  -- A section ran from one state of its crew to another, and gave these receipts and replies.
  pub record SectionDone (before : Progress) (calls : SectionCalls) (after : Progress) (out : SectionOut) : Type 0 where
    -- Receipts and replies are honest. The lists of charges and adds, the journal and the shelf grow by what they say, and by no more.
    pub ran : SectionRan privileged sizes.regs (past_of before) calls (past_of after) out
    -- The list of register reads grows by the receipts' reads.
    pub reads : after.pass.reads ≡ before.pass.reads ++ flat_map recorded_reads (section_pairs calls out)
    -- The crew is whole again, and spent one call of the budget for each packet.
    pub crew : IsWhole budget after
    pub left : before.pass.left ≡ after.pass.left + spent_by calls.lanes
    -- The collector knows no more of an app than the crew added to it.
    pub known : (uid : ℕ) → IsAtMost (after.gathered.known uid) (added after.pass.apps uid)
    -- Where nothing ran beside a lane, what it charged has the marks of a replay on one thread.
    pub in_turn : IsSerialSection calls → RanInTurn sizes (past_of before) calls out

  -- Sections ran one after another.
  abbrev pub CrewRan : Progress → List SectionCalls → Progress → List SectionOut → Type 0
  CrewRan before [] after [] = before ≡ after
  CrewRan before (c ∷ cs) after (o ∷ os) = (next : Progress) × SectionDone before c next o × CrewRan next cs after os
  CrewRan before _ after _ = ⊥
