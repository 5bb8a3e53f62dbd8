-- What the parts of a read leave of a seat's view.
use Rattle.std.specs.Prelude.{◌≡◌, ◌≢◌, ℕ, ◌≤◌, List, [], ◌∷◌, ◌++◌, Option, None, Some}
use Rattle.acct_base.specs.declared.amount.Amount.{Amount}
use Rattle.total_rows.specs.declared.plan.Note.{Note}
use Rattle.total_rows.specs.declared.plan.Note.TheVariants.{Number}
use Rattle.total_rows.specs.declared.plan.View.{View}
use Rattle.total_rows.specs.declared.plan.Stage.TheVariants.{Idle, Reading}
use Rattle.total_rows.specs.declared.turns.Try.{Try}
use Rattle.total_rows.specs.Rows.{IsTry}
use Rattle.total_rows.specs.Sums.{added, knows, most}
use Rattle.total_rows.specs.Rule.{calls}

-- A look-up stands at the key's row, or found that nothing was ever added to the key.
abbrev pub Finds : ℕ → ℕ → View → Option Try → View → Type 0
Finds rows key m (Some at) m' = IsTry rows key at × (m' ≡ record m { stage = Reading key at.turn })
Finds rows key m None m' = (m' ≡ m) × ((c : ℕ) → knows key c m ≡ 0)

-- The notes of a row's four numbers.
abbrev pub row_notes : ℕ → Amount → List Note
row_notes key a = Number key 0 a.rx_packets ∷ Number key 1 a.rx_bytes ∷ Number key 2 a.tx_packets ∷ Number key 3 a.tx_bytes ∷ []

-- Each number is at least what was known of it, and a seat that has all calls reads what it added.
pub record ReadsNumbers (all key : ℕ) (m : View) (a : Amount) : Type 0 where
  pub rx_packets : knows key 0 m ≤ a.rx_packets
  pub rx_bytes : knows key 1 m ≤ a.rx_bytes
  pub tx_packets : knows key 2 m ≤ a.tx_packets
  pub tx_bytes : knows key 3 m ≤ a.tx_bytes
  pub sole_rx_packets : calls m ≡ all → a.rx_packets ≡ added key 0 m.adds
  pub sole_rx_bytes : calls m ≡ all → a.rx_bytes ≡ added key 1 m.adds
  pub sole_tx_packets : calls m ≡ all → a.tx_packets ≡ added key 2 m.adds
  pub sole_tx_bytes : calls m ≡ all → a.tx_bytes ≡ added key 3 m.adds

-- A row was read: its numbers are noted, and the seat rests.
pub record ReadsRow (all key : ℕ) (m : View) (a : Amount) (m' : View) : Type 0 where
  pub view : m' ≡ record m { notes = m.notes ++ row_notes key a; stage = Idle }
  pub numbers : ReadsNumbers all key m a

-- A key was read: the answer is what the seat knows of it afterwards, and of other keys it knows what it knew.
pub record ReadsKey (all key : ℕ) (m : View) (a : Amount) (m' : View) : Type 0 where
  pub view : m' ≡ record m { notes = m'.notes }
  pub rx_packets : knows key 0 m' ≡ a.rx_packets
  pub rx_bytes : knows key 1 m' ≡ a.rx_bytes
  pub tx_packets : knows key 2 m' ≡ a.tx_packets
  pub tx_bytes : knows key 3 m' ≡ a.tx_bytes
  pub others : (other c : ℕ) → other ≢ key → most other c m'.notes ≡ most other c m.notes
  pub numbers : ReadsNumbers all key m a
