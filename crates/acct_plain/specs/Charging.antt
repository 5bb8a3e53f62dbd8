-- The charges of one packet to the rows of its phase.
use Rattle.std.specs.Prelude.{◌≡◌, ℕ, ◌==◌, not, List, Option, None, Some, is_some}
use Rattle.std.specs.declared.cmp.Ordering.{Ordering}
use Rattle.acct_base.specs.declared.amount.Amount.{Amount}
use Rattle.acct_base.specs.declared.label.Label.{Label}
use Rattle.acct_base.specs.declared.receipt.Mark.{Mark}
use Rattle.acct_base.specs.Amounts.{plus, label_cmp, HasRoom}
use Rattle.acct_base.specs.Receipts.{is_landed, untagged}
use Rattle.acct_plain.specs.declared.charging.RowMarks.{RowMarks}
use Rattle.acct_plain.specs.Ledgers.{Adds, amount_of}

-- An amount was added, where a mark says so.
abbrev pub AddsIf : {K : Type 0} → (K → K → Ordering) → List (K × Amount) → List (K × Amount) → ℕ → K → Amount → Option Mark → Type 0
AddsIf cmp old new limit key more None = new ≡ old
AddsIf cmp old new limit key more (Some mark) = Adds cmp old new limit key more (is_landed mark)

-- A packet's amount was added at its label, where that has a tag, and then at the label without the tag.
pub record AddsPacket (old new : List (Label × Amount)) (limit : ℕ) (label : Label) (more : Amount) (marks : RowMarks) : Type 0 where
  pub between : List (Label × Amount)
  pub is_made : is_some marks.tag ≡ not (label.tag == 0)
  pub tag : AddsIf label_cmp old between limit label more marks.tag
  pub plain : Adds label_cmp between new limit (untagged label) more (is_landed marks.plain)

-- At each label there is room for the amount twice.
abbrev pub HasRoomTwice : List (Label × Amount) → Amount → Type 0
HasRoomTwice es more = (l : Label) → HasRoom (plus (plus (amount_of label_cmp es l) more) more)
