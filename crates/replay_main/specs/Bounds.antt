-- What a report adds up stays far below what its words hold.
use Rattle.std.specs.Prelude.{ℕ, ◌<◌, ◌≤◌, ◌^◌, length}
use Rattle.acct_base.specs.declared.amount.Amount.{Amount}
use Rattle.acct_base.specs.declared.label.Label.{Label}
use Rattle.acct_base.specs.Amounts.{amount_at}
use Rattle.acct_base.specs.Sums.{total_at}
use Rattle.shelf.specs.Phases.{kept_rows, rows_of_phase}
use Rattle.shelf.specs.Shown.{Shown}
use Rattle.captures.specs.Calls.{Asked, IsAskedInRange}
use Rattle.captures.specs.Honest.{IsHonest}
use Rattle.acct_plain.specs.Walks.{calls_of_sections}
use Rattle.dump_text.specs.Dump.{receipts_of}

-- Each of an amount's four numbers is below 2 ^ 48.
pub record IsSmallSum (a : Amount) : Type 0 where
  pub rx_packets : a.rx_packets < 2 ^ 48
  pub rx_bytes : a.rx_bytes < 2 ^ 48
  pub tx_packets : a.tx_packets < 2 ^ 48
  pub tx_bytes : a.tx_bytes < 2 ^ 48

-- Each sum of a report is below 2 ^ 48, and it has no more receipts than a script may have calls.
pub record SumsAreSmall (r : Shown) : Type 0 where
  -- What each phase counted for each label, with what its deletion took out.
  pub phases : (n : ℕ) (label : Label) → n ≤ length r.phases → IsSmallSum (amount_at (rows_of_phase r.phases r.live n) label)
  -- What all phases together hold for each label.
  pub rows : (label : Label) → IsSmallSum (amount_at (kept_rows r.phases r.live) label)
  -- The total of each app, and of each interface.
  pub apps : (uid : ℕ) → IsSmallSum (total_at r.apps uid)
  pub ifaces : (iface : ℕ) → IsSmallSum (total_at r.ifaces iface)
  pub receipts : length (receipts_of r.sections) ≤ 1048576

-- An honest report of at most 1,048,576 calls in their ranges has small sums.
abbrev pub HonestSumsAreSmall : Type 0
HonestSumsAreSmall =
    (asked : Asked) (report : Shown) → IsAskedInRange asked → calls_of_sections asked.sections ≤ 1048576 → IsHonest asked report → SumsAreSmall report
