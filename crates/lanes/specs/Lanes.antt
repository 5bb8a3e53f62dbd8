-- What lanes do with passes. No word here speaks of threads: each lane makes its calls on its own pass, in whatever order the calls of several lanes fall.
use Rattle.std.specs.Prelude.{◌≡◌, ℕ, ◌+◌, List, [], ◌∷◌, length}
use Rattle.std.specs.List.{AllByRecursion}
use Rattle.acct_base.specs.declared.receipt.LineReceipt.{LineReceipt}
use Rattle.acct_base.specs.declared.sizes.Sizes.{Sizes}
use Rattle.acct_base.specs.Ranges.{IsCallInRange}
use Rattle.acct_base.specs.Receipts.{Call}
use Rattle.hook_engine.specs.Passes.{Pass, Called, Split, Joined, spent}

-- The calls of a lane are in their ranges.
abbrev pub AreCallsInRange : List (ℕ × Call) → Type 0
AreCallsInRange lane = AllByRecursion (λ (c : ℕ × Call). IsCallInRange c.1) lane

-- Those of each lane are.
abbrev pub AreLanesInRange : List (List (ℕ × Call)) → Type 0
AreLanesInRange lanes = AllByRecursion AreCallsInRange lanes

-- How many calls lanes make.
abbrev pub calls_made : List (List (ℕ × Call)) → ℕ
calls_made [] = 0
calls_made (lane ∷ lanes) = length lane + calls_made lanes

-- How many calls of the budget a lane spends.
abbrev pub spent_in : List (ℕ × Call) → ℕ
spent_in [] = 0
spent_in (c ∷ cs) = spent c.1 + spent_in cs

-- How many calls of the budget lanes spend.
abbrev pub spent_by : List (List (ℕ × Call)) → ℕ
spent_by [] = 0
spent_by (lane ∷ lanes) = spent_in lane + spent_by lanes

-- A pass for each lane is split off.
abbrev pub AllSplit : Pass → List Pass → Pass → Type 0
AllSplit before [] after = before ≡ after
AllSplit before (p ∷ ps) after = (n : ℕ) × (next : Pass) × Split n before next p × AllSplit next ps after

-- The lanes' passes are joined in, in lane order.
abbrev pub AllJoined : Pass → List Pass → Pass → Type 0
AllJoined before [] after = before ≡ after
AllJoined before (p ∷ ps) after = (next : Pass) × Joined before p next × AllJoined next ps after

module _ (budget : ℕ) (sizes : Sizes) where
  -- A lane made its calls on a pass, one after another: each gave the receipt at its place, which has its line's number.
  abbrev pub LaneCalled : Pass → List (ℕ × Call) → List (ℕ × LineReceipt) → Pass → Type 0
  LaneCalled before [] [] after = before ≡ after
  LaneCalled before (c ∷ cs) (r ∷ rs) after = (next : Pass) × Called budget sizes before c.1 r.1 next × (r.0 ≡ c.0) × LaneCalled next cs rs after
  LaneCalled before _ _ after = ⊥

  -- Each lane made its calls, on its own pass.
  abbrev pub AllCalled : List Pass → List (List (ℕ × Call)) → List (List (ℕ × LineReceipt)) → List Pass → Type 0
  AllCalled [] [] [] [] = Unit {0}
  AllCalled (s ∷ ss) (lane ∷ lanes) (out ∷ outs) (e ∷ es) = LaneCalled s lane out e × AllCalled ss lanes outs es
  AllCalled _ _ _ _ = ⊥

  -- A pass was divided among lanes, each made its calls, and their passes were joined in again.
  pub record Divided (start : Pass) (lanes : List (List (ℕ × Call))) (outs : List (List (ℕ × LineReceipt))) (end : Pass) : Type 0 where
    pub rest : Pass
    pub starts : List Pass
    pub ends : List Pass
    pub split : AllSplit start starts rest
    pub called : AllCalled starts lanes outs ends
    pub joined : AllJoined rest ends end

  -- The lanes of a section made their calls. A lane by itself has the whole pass.
  abbrev pub LanesRan : Pass → List (List (ℕ × Call)) → List (List (ℕ × LineReceipt)) → Pass → Type 0
  LanesRan start (lane ∷ []) (out ∷ []) end = LaneCalled start lane out end
  LanesRan start (lane ∷ []) _ end = ⊥
  LanesRan start lanes outs end = Divided start lanes outs end
