-- Where charges and adds land: in the row of their label or key, or, where that has none, in a free one; else nowhere.
use Rattle.std.specs.Prelude.{◌≡◌, ℕ, ◌<◌, ◌==◌, ◌&&◌, ◌||◌, nat_lt, Bool, true, false, List, [], ◌∷◌, ◌++◌, length, map, filter}
use Rattle.std.specs.List.{list_any}
use Rattle.std.specs.Ordering.{nat_cmp}
use Rattle.acct_base.specs.declared.charge.Charge.{Charge}
use Rattle.acct_base.specs.declared.charge.Landed.{Landed}
use Rattle.acct_base.specs.declared.charge.Landed.TheVariants.{Row, Full}
use Rattle.acct_base.specs.declared.label.Label.{Label}
use Rattle.acct_base.specs.Amounts.{label_cmp, same_label}
use Rattle.acct_base.specs.Ordered.{ascending}
use Rattle.acct_base.specs.Receipts.{Add}

-- It landed.
abbrev pub is_row : Landed → Bool
is_row (Row row) = true
is_row Full = false

-- It landed in a row below this number, or nowhere.
abbrev pub IsBelow : ℕ → Landed → Type 0
IsBelow rows (Row row) = row < rows
IsBelow rows Full = Unit {0}

-- The labels at which something landed in a phase, ascending, each once.
abbrev pub landed_labels : List Charge → ℕ → List Label
landed_labels charges phase =
    ascending label_cmp (map (λ (c : Charge). c.job.label) (filter (λ (c : Charge). c.landed && c.phase == phase) charges))

-- The keys on which something landed, ascending, each once.
abbrev pub landed_keys : List Add → List ℕ
landed_keys adds = ascending nat_cmp (map (λ (a : Add). a.key) (filter (λ (a : Add). a.landed) adds))

-- One lands where it is among those that landed already, or where fewer did than there are rows.
abbrev pub finds_room : {X : Type 0} → (X → X → Bool) → ℕ → List X → X → Bool
finds_room same size taken x = list_any (λ y. same y x) taken || nat_lt (length taken) size

abbrev pub same_number : ℕ → ℕ → Bool
same_number a b = a == b

-- A charge lands in a map of so many rows, after these charges.
abbrev pub charge_lands : ℕ → List Charge → ℕ → Label → Bool
charge_lands size before phase label = finds_room same_label size (landed_labels before phase) label

-- An add lands in a table of so many rows, after these adds.
abbrev pub add_lands : ℕ → List Add → ℕ → Bool
add_lands size before key = finds_room same_number size (landed_keys before) key

-- Each charge landed exactly where it found room, after those before it.
abbrev pub LandInTurn : ℕ → List Charge → List Charge → Type 0
LandInTurn size before [] = Unit {0}
LandInTurn size before (c ∷ cs) = (c.landed ≡ charge_lands size before c.phase c.job.label) × LandInTurn size (before ++ c ∷ []) cs

-- The same of adds to totals.
abbrev pub AddInTurn : ℕ → List Add → List Add → Type 0
AddInTurn size before [] = Unit {0}
AddInTurn size before (a ∷ more) = (a.landed ≡ add_lands size before a.key) × AddInTurn size (before ++ a ∷ []) more
