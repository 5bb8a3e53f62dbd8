-- Sums by label, on an ordered map.
use Rattle.std.specs.Prelude.{◌≡◌, cond, List, Option, Some, None, unwrap_or, if◌then◌else◌}
use Rattle.std.specs.Map.{lookup}
use Rattle.std.specs.Ordering.{is_eq}
use Rattle.acct_base.specs.declared.amount.Amount.{Amount}
use Rattle.acct_base.specs.declared.amount.Row.{Row}
use Rattle.acct_base.specs.declared.label.Label.{Label}
use Rattle.acct_base.specs.Amounts.{label_cmp, zero_amount, plus, amount_at}
use Rattle.acct_base.specs.Sums.{has_label}

-- The amount at a label, where it is there.
abbrev pub find_amount : List (Label × Amount) → Label → Option Amount
find_amount entries label = lookup (λ l. is_eq (label_cmp label l)) entries

-- The amount at a label, or zero.
abbrev pub amount_of : List (Label × Amount) → Label → Amount
amount_of entries label = unwrap_or (find_amount entries label) zero_amount

-- An amount was added at a label, and nothing else changed.
abbrev pub AddsAmount : List (Label × Amount) → List (Label × Amount) → Label → Amount → Type 0
AddsAmount old new label more = (l : Label) → find_amount new l ≡ cond (is_eq (label_cmp label l)) (Some (plus (amount_of old label) more)) (find_amount old l)

-- The map has the labels of the rows, each with the sum of its rows.
abbrev pub IsMerged : List (Label × Amount) → List Row → Type 0
IsMerged entries rows = (l : Label) → find_amount entries l ≡ (if has_label rows l then Some (amount_at rows l) else None)

-- An entry as a row.
abbrev pub row_of : Label × Amount → Row
row_of e = record { label = e.0; amount = e.1 }
