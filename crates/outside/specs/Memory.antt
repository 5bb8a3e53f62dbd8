-- What a source and a sink in memory are seen as, which of their calls fail, and what each call leaves.
use Rattle.std.specs.Prelude.{ℕ, ◌-◌, ◌==◌, min, Bool, ◌||◌, nat_le, List, ◌++◌, length, take, drop}
use Rattle.std.specs.List.{list_any}
use Rattle.outside.specs.Outside.{counted}

-- A source in memory: the bytes that are left, the most that a call gives, the numbers of the calls
-- that fail, and how many calls were made and how many of them failed, as a u64 counts.
pub record Input : Type 0 where
  pub left : List ℕ
  pub piece : ℕ
  pub fails : List ℕ
  pub calls : ℕ
  pub faults : ℕ

-- A sink in memory: the bytes that it got, how many it has room for in all, and the rest as for a
-- source.
pub record Output : Type 0 where
  pub written : List ℕ
  pub room : ℕ
  pub piece : ℕ
  pub fails : List ℕ
  pub calls : ℕ
  pub faults : ℕ

-- The number is one of these.
abbrev pub is_listed : List ℕ → ℕ → Bool
is_listed numbers n = list_any (λ m. m == n) numbers

-- ---- a source

-- The next call fails: its number, from 1, is listed.
abbrev pub read_fails : Input → Bool
read_fails s = is_listed s.fails (counted s.calls)

-- A call moves as many bytes as the piece, the buffer and what is left allow.
abbrev pub read_count : Input → ℕ → ℕ
read_count s buffer = min s.piece (min buffer (length s.left))

-- A call that gave n bytes has taken them from the front, and nothing else has changed.
abbrev pub after_read : Input → ℕ → Input
after_read s n = record s { left = drop n s.left; calls = counted s.calls }

-- A call that failed is counted twice, as a call and as a fault, and nothing else has changed.
abbrev pub after_failed_read : Input → Input
after_failed_read s = record s { calls = counted s.calls; faults = counted s.faults }

-- ---- a sink

-- The next call fails: no room is left, or its number, from 1, is listed.
abbrev pub write_fails : Output → Bool
write_fails s = nat_le s.room (length s.written) || is_listed s.fails (counted s.calls)

-- A call moves as many of the bytes as the piece and the room that is left allow.
abbrev pub write_count : Output → ℕ → ℕ
write_count s given = min s.piece (min given (s.room - length s.written))

-- A call that took n bytes has put them behind the others, and nothing else has changed.
abbrev pub after_write : Output → List ℕ → ℕ → Output
after_write s bytes n = record s { written = s.written ++ take n bytes; calls = counted s.calls }

-- A call that failed is counted twice, as a call and as a fault, and nothing else has changed.
abbrev pub after_failed_write : Output → Output
after_failed_write s = record s { calls = counted s.calls; faults = counted s.faults }
