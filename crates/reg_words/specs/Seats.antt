-- What is seen of the registers and of their seats.
use Rattle.std.specs.Prelude.{ℕ, List}
use Rattle.acct_base.specs.declared.register.Key.{Key}
use Rattle.acct_base.specs.declared.register.Write.{Write}
use Rattle.acct_base.specs.declared.register.Seen.{Seen}
use Rattle.acct_base.specs.declared.sizes.RegSizes.{RegSizes}
use Rattle.atomic_table.specs.Seated.{TableId}

-- The registers that a seat came from: their table, and their limits.
pub record Origin : Type 0 where
  pub table : TableId
  pub limits : RegSizes

-- The writer has the journal, the list of all writes, and the number of them that are published.
pub record WriterState : Type 0 where
  pub origin : Origin
  pub journal : List Write
  pub front : ℕ

-- A reader has the writes that it knows, the number of its loads of the front with what the last one gave, and its reads with their answers.
pub record ReaderState : Type 0 where
  pub origin : Origin
  pub known : List Write
  pub loads : ℕ
  pub loaded : ℕ
  pub reads : List (Key × Seen)
