-- The places of a table that are tried for a key, turn by turn: from a place by the key's hash on, one after another, round the table.
use Rattle.std.specs.Prelude.{ℕ, ◌+◌, ◌*◌, ◌/◌, ◌%◌, ◌^◌, ◌==◌, if◌then◌else◌}
use Rattle.acct_base.specs.declared.label.Label.{Label}
use Rattle.row_probe.specs.Keys.{pack1, pack2}

-- The hash of a key of two words: each is multiplied by a large odd number, and the sum is cut to 64 bits.
abbrev pub hash : ℕ → ℕ → ℕ
hash k1 k2 = (k1 * 2654435761 + k2 * 11400714819323198485) % 2 ^ 64

-- The place that is tried first, in a table of some rows: the upper half of the hash says which.
unfoldable pub home : ℕ → ℕ → ℕ → ℕ
home k1 k2 rows = hash k1 k2 / 2 ^ 32 % rows

-- The place behind a place; the first one is behind the last.
abbrev pub next_place : ℕ → ℕ → ℕ
next_place place rows = if place + 1 == rows then 0 else place + 1

-- The place that is tried at a turn. What stands above uses of it that the turns below the number of rows give each place once, and how one
-- turn's place follows another's.
unfoldable pub place : ℕ → ℕ → ℕ → ℕ → ℕ
place k1 k2 turn rows = (home k1 k2 rows + turn) % rows

-- The place that is tried for a label.
abbrev pub place_of : Label → ℕ → ℕ → ℕ
place_of label turn rows = place (pack1 label) (pack2 label) turn rows
