-- The counts of receipts: how many there are, and what they say.
use Rattle.std.specs.Prelude.{ℕ, ◌+◌, ◌<◌, ◌≤◌, ◌^◌, Option, Some, None, List, length, sum_by}
use Rattle.acct_base.specs.declared.receipt.LineReceipt.{LineReceipt}
use Rattle.acct_base.specs.declared.receipt.LineReceipt.TheVariants as line
use Rattle.acct_base.specs.declared.receipt.Mark.{Mark}
use Rattle.acct_base.specs.declared.receipt.Mark.TheVariants as mark
use Rattle.acct_base.specs.declared.verdict.Verdict.{Verdict}
use Rattle.acct_base.specs.declared.verdict.Verdict.TheVariants as verdict
use Rattle.shelf.specs.declared.counts.CallCounts.{CallCounts}

-- A hook passed the packet.
abbrev pub passed : LineReceipt → ℕ
passed (line.Hook r) = if_pass r.verdict
  where
    if_pass : Verdict → ℕ
    if_pass verdict.Pass = 1
    if_pass verdict.Drop = 0
passed (line.Iface r) = 0
passed (line.List r) = 0

-- A hook dropped the packet.
abbrev pub dropped : LineReceipt → ℕ
dropped (line.Hook r) = if_drop r.verdict
  where
    if_drop : Verdict → ℕ
    if_drop verdict.Pass = 0
    if_drop verdict.Drop = 1
dropped (line.Iface r) = 0
dropped (line.List r) = 0

-- A mark says that the table was full.
abbrev pub full_mark : Option Mark → ℕ
full_mark (Some mark.Full) = 1
full_mark (Some mark.Landed) = 0
full_mark None = 0

-- How many marks of a receipt say so.
abbrev pub full_marks : LineReceipt → ℕ
full_marks (line.Hook r) = full_mark r.landed_tag + full_mark r.landed_plain + full_mark r.landed_app
full_marks (line.Iface r) = full_mark r.landed
full_marks (line.List r) = 0

-- What one receipt counts for.
abbrev pub line_counts : LineReceipt → CallCounts
line_counts r = record { calls = 1; passed = passed r; dropped = dropped r; full = full_marks r }

-- The counts of receipts.
abbrev pub counts_of : List (ℕ × LineReceipt) → CallCounts
counts_of rs = record {
  calls = length rs;
  passed = sum_by (λ (r : ℕ × LineReceipt). passed r.1) rs;
  dropped = sum_by (λ (r : ℕ × LineReceipt). dropped r.1) rs;
  full = sum_by (λ (r : ℕ × LineReceipt). full_marks r.1) rs;
}

-- Both counts together.
abbrev pub counts_together : CallCounts → CallCounts → CallCounts
counts_together a b = record { calls = a.calls + b.calls; passed = a.passed + b.passed; dropped = a.dropped + b.dropped; full = a.full + b.full }

-- Each count fits in a word of 64 bits.
pub record CountsFit (c : CallCounts) : Type 0 where
  pub calls : c.calls < 2 ^ 64
  pub passed : c.passed < 2 ^ 64
  pub dropped : c.dropped < 2 ^ 64
  pub full : c.full < 2 ^ 64

-- There are more than 2 ^ 62 of these receipts. With so many or fewer each count fits, since a receipt has three marks at most.
abbrev pub AreTooMany : List (ℕ × LineReceipt) → Type 0
AreTooMany rs = length rs ≤ 2 ^ 62 → ⊥
