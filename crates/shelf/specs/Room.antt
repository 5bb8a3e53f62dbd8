-- Receipts in the room that was taken for them.
use Rattle.std.specs.Prelude.{ℕ, List}
use Rattle.acct_base.specs.declared.receipt.LineReceipt.{LineReceipt}

-- The receipts so far, each with the number of its line, and for how many in all there is room.
pub record Room : Type 0 where
  pub receipts : List (ℕ × LineReceipt)
  pub room : ℕ
