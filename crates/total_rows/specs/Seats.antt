-- What is seen of the totals and of their seats.
use Rattle.std.specs.Prelude.{◌≡◌, ℕ, ◌+◌, ◌^◌, ◌≤◌, ◌↔◌, max, List, [], ◌∷◌}
use Rattle.std.specs.List.{AllPairs}
use Rattle.acct_base.specs.declared.amount.Amount.{Amount}
use Rattle.acct_base.specs.declared.charge.Landed.{Landed}
use Rattle.acct_base.specs.declared.charge.Landed.TheVariants.{Row, Full}
use Rattle.acct_base.specs.Amounts.{IsAtMost}
use Rattle.acct_base.specs.Receipts.{Add}
use Rattle.acct_base.specs.Sums.{added}
pub use Rattle.atomic_table.specs.Seated.{TableId}
use Rattle.total_rows.specs.declared.plan.Note.{Note}
use Rattle.total_rows.specs.Sums.{most}

-- The totals have a table, so many rows, and so many calls that their seats may make in all.
pub record TotalsState : Type 0 where
  pub table : TableId
  pub rows : ℕ
  pub calls : ℕ

-- A seat has the calls that are left to it and those that it made, the list of its adds, the key and the row of each of them that landed, and notes of what it learned of other seats' adds.
pub record SeatState : Type 0 where
  pub table : TableId
  pub left : ℕ
  pub made : ℕ
  pub adds : List Add
  pub places : List (ℕ × ℕ)
  pub notes : List Note

-- The greatest that notes tell of a key, number by number.
abbrev pub noted_of : List Note → ℕ → Amount
noted_of notes key = record { rx_packets = most key 0 notes; rx_bytes = most key 1 notes; tx_packets = most key 2 notes; tx_bytes = most key 3 notes }

-- The greater of two amounts, number by number.
abbrev pub greater : Amount → Amount → Amount
greater a b = record {
  rx_packets = max a.rx_packets b.rx_packets;
  rx_bytes = max a.rx_bytes b.rx_bytes;
  tx_packets = max a.tx_packets b.tx_packets;
  tx_bytes = max a.tx_bytes b.tx_bytes;
}

-- What a seat knows of a key: what it learned, and at least the sum of its own landed adds.
abbrev pub known : SeatState → ℕ → Amount
known seat key = greater (noted_of seat.notes key) (added seat.adds key)

-- A seat knows of each key at least what another one knows.
abbrev pub KnowsAll : SeatState → SeatState → Type 0
KnowsAll other seat = (key : ℕ) → IsAtMost (known other key) (known seat key)

-- The seat has all calls of its totals, so that no other seat has any.
abbrev pub IsSole : TotalsState → SeatState → Type 0
IsSole totals seat = seat.left + seat.made ≡ totals.calls

-- A seat that has all calls knows of each key the sum of its own landed adds.
abbrev pub KnowsItsOwn : TotalsState → SeatState → Type 0
KnowsItsOwn totals seat = IsSole totals seat → (key : ℕ) → known seat key ≡ added seat.adds key

-- A seat has no more calls than its totals, and these have few enough that no sum of calls passes its word.
pub record IsWithin (totals : TotalsState) (seat : SeatState) : Type 0 where
  pub calls : seat.left + seat.made ≤ totals.calls
  pub few : totals.calls ≤ 2 ^ 28

-- The key and the row of an add that landed.
abbrev pub placed : ℕ → Landed → List (ℕ × ℕ)
placed key (Row row) = (key, row) ∷ []
placed key Full = []

-- Two of these have one key exactly where they have one row.
abbrev pub IsOneToOne : List (ℕ × ℕ) → Type 0
IsOneToOne places = AllPairs (λ (p q : ℕ × ℕ). (p.0 ≡ q.0) ↔ (p.1 ≡ q.1)) places
