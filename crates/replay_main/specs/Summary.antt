-- The summary of a replay of the generated script: one line, with the counts that its dump has and the sums of its rows.
use Rattle.std.specs.Prelude.{ℕ, ◌+◌, ◌==◌, not, Bool, true, false, List, [], ◌∷◌, length, codes, decimal}
use Rattle.acct_base.specs.declared.amount.Amount.{Amount}
use Rattle.acct_base.specs.declared.amount.Row.{Row}
use Rattle.acct_base.specs.Amounts.{total_by, amount_if}
use Rattle.acct_base.specs.Text.{line_text}
use Rattle.shelf.specs.Counted.{counts_of}
use Rattle.shelf.specs.Phases.{kept_rows}
use Rattle.shelf.specs.Shown.{Shown}
use Rattle.dump_text.specs.Dump.{receipts_of}
use Rattle.replay_main.specs.declared.summary.Sums.{Sums}

-- The row has a tag, or, where that is asked for, none.
abbrev pub is_row_of : Bool → Row → Bool
is_row_of true row = not (row.label.tag == 0)
is_row_of false row = row.label.tag == 0

-- What a row holds, if it is one with a tag, or one without.
abbrev pub row_amount : Bool → Row → Amount
row_amount tagged row = amount_if (is_row_of tagged row) row.amount

-- What the rows with a tag hold together, or those without one.
abbrev pub rows_sum : Bool → List Row → Amount
rows_sum tagged rows = total_by (row_amount tagged) rows

-- The counts and sums of a report: of all its receipts, and of all rows of its snapshots and live ones.
abbrev pub sums_of : Shown → Sums
sums_of r =
    let tagged = rows_sum true (kept_rows r.phases r.live) in
    record {
      counts = counts_of (receipts_of r.sections);
      writes = length r.journal;
      phase = r.live.phase;
      plain = rows_sum false (kept_rows r.phases r.live);
      tagged_packets = tagged.rx_packets + tagged.tx_packets;
      tagged_bytes = tagged.rx_bytes + tagged.tx_bytes;
    }

-- The line of these counts and sums.
abbrev pub sums_text : ℕ → Sums → List ℕ
sums_text rounds s = line_text (
    codes "bulk" ∷ decimal rounds ∷ codes "calls" ∷ decimal s.counts.calls ∷ codes "pass" ∷ decimal s.counts.passed
    ∷ codes "drop" ∷ decimal s.counts.dropped ∷ codes "full" ∷ decimal s.counts.full
    ∷ codes "writes" ∷ decimal s.writes ∷ codes "phase" ∷ decimal s.phase
    ∷ codes "rx" ∷ decimal s.plain.rx_packets ∷ decimal s.plain.rx_bytes ∷ codes "tx" ∷ decimal s.plain.tx_packets ∷ decimal s.plain.tx_bytes
    ∷ codes "tagged" ∷ decimal s.tagged_packets ∷ decimal s.tagged_bytes ∷ []
    )

-- The summary of a replay of so many rounds.
abbrev pub summary : ℕ → Shown → List ℕ
summary rounds r = sums_text rounds (sums_of r)
