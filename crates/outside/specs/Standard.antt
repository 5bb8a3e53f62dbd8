-- What a reader that serves as a source, and a writer that serves as a sink, are seen as.
use Rattle.std.specs.Prelude.{ℕ}

-- A reader or a writer, and how often it failed, as a u64 counts.
pub record Counted (T : Type 0) : Type 0 where
  pub inner : T
  pub faults : ℕ
