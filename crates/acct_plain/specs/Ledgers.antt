-- Sums by key on an ordered map, and what one sum more does to them.
use Rattle.std.specs.Prelude.{◌≡◌, ℕ, ◌+◌, ◌&&◌, ◌||◌, not, Bool, cond, nat_lt, List, length, Option, Some, None, is_some, unwrap_or, if◌then◌else◌}
use Rattle.std.specs.List.{list_any}
use Rattle.std.specs.Map.{lookup}
use Rattle.std.specs.Ordering.{is_eq}
use Rattle.std.specs.declared.cmp.Ordering.{Ordering}
use Rattle.acct_base.specs.declared.amount.Amount.{Amount}
use Rattle.acct_base.specs.declared.amount.Row.{Row}
use Rattle.acct_base.specs.declared.label.Label.{Label}
use Rattle.acct_base.specs.Amounts.{zero_amount, plus}

-- The amount at a key, where it is there.
abbrev pub find : {K : Type 0} → (K → K → Ordering) → List (K × Amount) → K → Option Amount
find cmp es k = lookup (λ e. is_eq (cmp k e)) es

-- The amount at a key, or zero.
abbrev pub amount_of : {K : Type 0} → (K → K → Ordering) → List (K × Amount) → K → Amount
amount_of cmp es k = unwrap_or (find cmp es k) zero_amount

-- An amount was added at a key: it landed where the key is there, or there was room for one more; and nothing else changed.
pub record Adds {K : Type 0} (cmp : K → K → Ordering) (old new : List (K × Amount)) (limit : ℕ) (key : K) (more : Amount) (landed : Bool) : Type 0 where
  pub lands : landed ≡ (is_some (find cmp old key) || nat_lt (length old) limit)
  pub sums : (k : K) → find cmp new k ≡ cond (landed && is_eq (cmp key k)) (Some (plus (amount_of cmp old key) more)) (find cmp old k)
  pub count : length new ≡ length old + cond (landed && not (is_some (find cmp old key))) 1 0

-- At a key stands this amount from now on, or nothing; and nothing else changed.
pub record Sets {K : Type 0} (cmp : K → K → Ordering) (old new : List (K × Amount)) (key : K) (amount : Option Amount) : Type 0 where
  pub sums : (k : K) → find cmp new k ≡ cond (is_eq (cmp key k)) amount (find cmp old k)

-- The map has these keys, each with its sum.
pub record HoldsSums {K : Type 0} (cmp : K → K → Ordering) (same : K → K → Bool) (entries : List (K × Amount)) (keys : List K) (sum : K → Amount) : Type 0 where
  pub sums : (k : K) → find cmp entries k ≡ (if list_any (λ y. same y k) keys then Some (sum k) else None)
  pub count : length entries ≡ length keys

-- An entry as a row.
abbrev pub row_of : Label × Amount → Row
row_of e = record { label = e.0; amount = e.1 }
