-- What a desk is seen as, when it is level, and what its calls say.
use Rattle.std.specs.Prelude.{◌≡◌, ℕ, List, ◌++◌, length}
use Rattle.acct_base.specs.declared.register.Write.{Write}
use Rattle.acct_base.specs.declared.sizes.RegSizes.{RegSizes}
use Rattle.reg_words.specs.Seats.{WriterState}
use Rattle.desk_core.specs.Book.{BookView}
use Rattle.desk_core.specs.declared.command.Command.{Command}
use Rattle.desk_core.specs.declared.command.Reply.{Reply}
use Rattle.desk_core.specs.Commands.{reply, writes}

-- A desk has the writer of registers, and the book that decides what is written.
pub record DeskState : Type 0 where
  pub writer : WriterState
  pub book : BookView

-- A desk is level where the registers and the book tell the same: the writer's journal is the book's, their limits are equal, and all is published.
pub record IsLevel (desk : DeskState) : Type 0 where
  pub journal : desk.writer.journal ≡ desk.book.journal
  pub limits : desk.writer.origin.limits ≡ desk.book.limits
  pub published : desk.writer.front ≡ length desk.writer.journal

-- The desk with this journal, all published. A level desk is its journal alone: with its own one it is itself.
abbrev pub with_journal : List Write → DeskState → DeskState
with_journal journal desk = record {
  writer = record { origin = desk.writer.origin; journal = journal; front = length journal };
  book = record { journal = journal; privileged = desk.book.privileged; limits = desk.book.limits };
}

-- The journal after these writes were enacted: they stand at its end, in order, and nothing else was written.
abbrev pub Enacted : List Write → List Write → List Write → Type 0
Enacted ws journal after = after ≡ journal ++ ws

module _ (privileged : List ℕ) (limits : RegSizes) where
  -- A command was carried out: the answer is the command's reply on the journal before, and its writes were enacted.
  pub record Commanded (journal : List Write) (command : Command) (answer : Reply) (after : List Write) : Type 0 where
    pub answer_is : answer ≡ reply journal privileged limits command
    pub enacted : Enacted (writes journal privileged limits command) journal after
