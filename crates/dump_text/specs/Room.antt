-- What a dump needs besides its report, and when a report has a dump.
use Rattle.std.specs.Prelude.{◌≡◌, ℕ, List}
use Rattle.std.specs.List.Sorted.{IsStrictlySortedBy}
use Rattle.std.specs.Ordering.{nat_cmp}
use Rattle.acct_base.specs.declared.amount.Amount.{Amount}
use Rattle.acct_base.specs.declared.amount.Row.{Row}
use Rattle.acct_base.specs.declared.label.Label.{Label}
use Rattle.acct_base.specs.Amounts.{HasRoom, IsAtMost, amount_at}
use Rattle.acct_base.specs.Sums.{total_at, total_keys}
use Rattle.shelf.specs.declared.counts.CallCounts.{CallCounts}
use Rattle.shelf.specs.Counted.{counts_of}
use Rattle.shelf.specs.Shelved.{Phases}
use Rattle.shelf.specs.Phases.{deleted_app, kept_rows, added_rows}
use Rattle.shelf.specs.Shown.{Shown}
use Rattle.dump_text.specs.Dump.{receipts_of}

-- The rows of the dump's total, and the counts of its second line.
pub record Room : Type 0 where
  pub rows : List Row
  pub counts : CallCounts

-- The room was made for this report.
pub record IsRoomOf (r : Shown) (room : Room) : Type 0 where
  pub rows : room.rows ≡ added_rows (kept_rows r.phases r.live)
  pub counts : room.counts ≡ counts_of (receipts_of r.sections)

-- For each label the sum of the report's rows fits in words of 64 bits.
abbrev pub SumsFit : Shown → Type 0
SumsFit r = (label : Label) → HasRoom (amount_at (kept_rows r.phases r.live) label)

-- Deletions recorded no more of a uid than its total.
abbrev pub IsCovered : Phases → ℕ × Amount → Type 0
IsCovered phases t = IsAtMost (deleted_app phases t.0) t.1

-- The totals by uid ascend, and for no uid did deletions record more than its total.
pub record AppsCoverDeletions (r : Shown) : Type 0 where
  pub ascend : IsStrictlySortedBy nat_cmp (total_keys r.apps)
  pub recorded : (uid : ℕ) → IsAtMost (deleted_app r.phases uid) (total_at r.apps uid)
