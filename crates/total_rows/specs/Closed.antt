-- The rows of a table that no seat uses any more.
use Rattle.std.specs.Prelude.{ℕ, zero, suc, ◌+◌, ◌-◌, ◌*◌, ◌^◌, ◌≤◌, ◌<◌, nat_eq, cond, List, [], ◌∷◌, ◌++◌, slice_index}
use Rattle.acct_base.specs.declared.amount.Amount.{Amount}

-- The four numbers of a row.
abbrev pub row_amount : ℕ → List ℕ → ℕ → Amount
row_amount rows words p = record {
  rx_packets = slice_index words (rows + 4 * p + 0);
  rx_bytes = slice_index words (rows + 4 * p + 1);
  tx_packets = slice_index words (rows + 4 * p + 2);
  tx_bytes = slice_index words (rows + 4 * p + 3);
}

-- A row that belongs to a key, with its numbers; a free row gives nothing.
abbrev pub row_pair : ℕ → List ℕ → ℕ → List (ℕ × Amount)
row_pair rows words p = cond (nat_eq (slice_index words p) 0) [] ((slice_index words p - 1, row_amount rows words p) ∷ [])

-- A row's word is a key of 32 bits and one more, or 0.
abbrev pub AreKeys : ℕ → List ℕ → Type 0
AreKeys rows words = (p : ℕ) → p < rows → slice_index words p ≤ 2 ^ 32

-- The key of a total.
abbrev pub key_of : ℕ × Amount → ℕ
key_of t = t.0

-- The rows below p, in the order of the table.
abbrev pub rows_below : ℕ → List ℕ → ℕ → List (ℕ × Amount)
rows_below rows words zero = []
rows_below rows words (suc p) = rows_below rows words p ++ row_pair rows words p
