-- Where a key stands. The key words are the first words of the table.
use Rattle.std.specs.Prelude.{◌≡◌, ◌≢◌, ℕ, ◌+◌, ◌<◌, List, slice_index}
use Rattle.row_probe.specs.Places.{place}
use Rattle.total_rows.specs.declared.turns.Try.{Try}

-- The word of a key, which is not 0.
abbrev pub code : ℕ → ℕ
code key = key + 1

-- The row that is tried for a key at a turn.
abbrev pub spot : ℕ → ℕ → ℕ → ℕ
spot rows key turn = place (code key) 1 turn rows

-- A turn of the search for a key's row, and the row that is tried at it.
pub record IsTry (rows key : ℕ) (at : Try) : Type 0 where
  pub turn : at.turn < rows
  pub row : at.row ≡ spot rows key at.turn
  pub inside : at.row < rows

-- The row that is tried at this turn belongs to another key.
abbrev pub Decided : ℕ → List ℕ → ℕ → ℕ → Type 0
Decided rows words key turn = (slice_index words (spot rows key turn) ≢ 0) × (slice_index words (spot rows key turn) ≢ code key)

-- The rows of all earlier turns belong to other keys.
abbrev pub AllDecided : ℕ → List ℕ → ℕ → ℕ → Type 0
AllDecided rows words key turn = (u : ℕ) → u < turn → Decided rows words key u

-- The key's row is the one of this turn.
pub record At (rows : ℕ) (words : List ℕ) (key turn : ℕ) : Type 0 where
  pub inside : turn < rows
  pub is : slice_index words (spot rows key turn) ≡ code key
  pub earlier : AllDecided rows words key turn

-- The row belongs to some key.
pub record Owned (rows : ℕ) (words : List ℕ) (row : ℕ) : Type 0 where
  pub key : ℕ
  pub turn : ℕ
  pub at : At rows words key turn
  pub here : spot rows key turn ≡ row
