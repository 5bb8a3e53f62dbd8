-- The rows of one phase. The words of its side are a list, six to a row.
use Rattle.std.specs.Prelude.{◌≡◌, ◌≢◌, ℕ, ◌+◌, ◌*◌, ◌<◌, ◌≤◌, ◌==◌, if◌then◌else◌, List, length, slice_index, sum_by, All}
use Rattle.acct_base.specs.declared.label.Label.{Label}
use Rattle.acct_base.specs.declared.amount.Amount.{Amount}
use Rattle.acct_base.specs.declared.amount.Row.{Row}
use Rattle.acct_base.specs.Amounts.{same_label, IsValidLabel}
use Rattle.row_probe.specs.Keys.{pack1, pack2}
use Rattle.row_probe.specs.Places.{place_of}
use Rattle.grace_core.specs.Sums.{Probe, second_at, adding_at, pending_at, Measure, landed, missed, packets, bytes}

-- The word of a row and a column.
abbrev pub cell : List ℕ → ℕ → ℕ → ℕ
cell words row column = slice_index words (6 * row + column)

-- The row has both keys of the label.
abbrev pub Has : List ℕ → ℕ → Label → Type 0
Has words row label = (cell words row 0 ≡ pack1 label) × (cell words row 1 ≡ pack2 label)

-- The row is another label's for good.
abbrev pub Decided : List ℕ → Label → ℕ → Type 0
Decided words label row = (cell words row 0 ≢ 0) × (cell words row 0 ≡ pack1 label → (cell words row 1 ≢ 0) × (cell words row 1 ≢ pack2 label))

-- The places of the turns before this one are decided against the label.
abbrev pub Tried : ℕ → List ℕ → Label → ℕ → Type 0
Tried rows words label turn = (earlier : ℕ) → earlier < turn → Decided words label (place_of label earlier rows)

-- The rows of a phase, where `stands` is what the views' standings in it add up to, and `sums` what its charges do.
pub record RowsAreGood (rows : ℕ) (words : List ℕ) (stands : Probe → ℕ) (sums : Measure → ℕ) : Type 0 where
  pub wide : length words ≡ 6 * rows
  -- there is no second key without a first, and both are a valid label's
  pub keyed : (i : ℕ) → i < rows → cell words i 0 ≡ 0 → cell words i 1 ≡ 0
  pub label : (i : ℕ) → i < rows → cell words i 1 ≢ 0 → (l : Label) × IsValidLabel l × Has words i l
  -- a first key without a second is that of a view that stands Second there
  pub claimed : (i : ℕ) → i < rows → cell words i 0 ≢ 0 → cell words i 1 ≡ 0 → 0 < stands (second_at i (cell words i 0))
  -- the places of earlier turns of a row's label are decided against it
  pub earlier : (i t : ℕ) (l : Label) → t < rows → place_of l t rows ≡ i → IsValidLabel l → Has words i l → Tried rows words l t
  -- each number is what landed, and packets are counted before their bytes
  pub packets_are : (i e : ℕ) (l : Label) → i < rows → IsValidLabel l → Has words i l → e < 2 → cell words i (2 + 2 * e) ≡ sums (packets l e) + stands (pending_at i e)
  pub bytes_are : (i e : ℕ) (l : Label) → i < rows → IsValidLabel l → Has words i l → e < 2 → cell words i (3 + 2 * e) ≡ sums (bytes l e)
  pub blank : (i c : ℕ) → i < rows → cell words i 1 ≡ 0 → 2 ≤ c → c < 6 → cell words i c ≡ 0
  -- a row with both keys has a landed charge, or a view that adds to it
  pub used : (i : ℕ) (l : Label) → i < rows → IsValidLabel l → Has words i l → 0 < sums (landed l) + stands (adding_at i)
  -- the label of a landed charge has a row, and for one that did not land every row is another label's
  pub placed : (l : Label) → IsValidLabel l → 0 < sums (landed l) → (i : ℕ) × (i < rows) × Has words i l
  pub filled : (l : Label) → IsValidLabel l → 0 < sums (missed l) → (i : ℕ) → i < rows → Decided words l i

-- The packets of an amount in a direction, and its bytes.
abbrev pub packets_in : Amount → ℕ → ℕ
packets_in a e = if e == 0 then a.rx_packets else a.tx_packets

abbrev pub bytes_in : Amount → ℕ → ℕ
bytes_in a e = if e == 0 then a.rx_bytes else a.tx_bytes

-- What a row adds to the number of rows of a label, to its packets in a direction and to its bytes.
abbrev pub row_is : Label → Row → ℕ
row_is l r = if same_label r.label l then 1 else 0

abbrev pub row_packets : Label → ℕ → Row → ℕ
row_packets l e r = if same_label r.label l then packets_in r.amount e else 0

abbrev pub row_bytes : Label → ℕ → Row → ℕ
row_bytes l e r = if same_label r.label l then bytes_in r.amount e else 0

-- The rows of a snapshot are what its phase's charges add up to: no such fact depends on the order of the rows.
pub record Folds (rows : ℕ) (list : List Row) (sums : Measure → ℕ) : Type 0 where
  pub valid : All (λ (r : Row). IsValidLabel r.label) list
  pub once : (l : Label) → IsValidLabel l → 0 < sums (landed l) → sum_by (row_is l) list ≡ 1
  pub never : (l : Label) → IsValidLabel l → sums (landed l) ≡ 0 → sum_by (row_is l) list ≡ 0
  pub packets_are : (l : Label) (e : ℕ) → IsValidLabel l → e < 2 → sum_by (row_packets l e) list ≡ sums (packets l e)
  pub bytes_are : (l : Label) (e : ℕ) → IsValidLabel l → e < 2 → sum_by (row_bytes l e) list ≡ sums (bytes l e)
  -- a charge that did not land met rows that were full of other labels
  pub filled : (l : Label) → IsValidLabel l → 0 < sums (missed l) → (length list ≡ rows) × (sum_by (row_is l) list ≡ 0)
