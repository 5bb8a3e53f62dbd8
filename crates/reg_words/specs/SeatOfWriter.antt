-- How the writer's seat shows what the writer has.
use Rattle.std.specs.Prelude.{◌≡◌, ◌≤◌, [], length, vec_capacity, None}
use Rattle.acct_base.specs.declared.register.Key.TheVariants.{Cookie}
use Rattle.acct_base.specs.Journal.{last_write}
use Rattle.reg_words.specs.declared.writer.Writer.TheInside.{Inside}
use Rattle.reg_words.specs.declared.view.Kind.TheVariants.{Writer}
use Rattle.reg_words.specs.Places.{total}
use Rattle.reg_words.specs.Counts.{AreOfWritten}
use Rattle.acct_base.specs.Ranges.{AreRegSizes}
use Rattle.reg_words.specs.Seats.{WriterState}

-- The view of the seat, without what only the rule of the table needs.
abbrev pub writer_state : Inside → WriterState
writer_state w = record {
  origin = record { table = w.seat.table_id; limits = w.seat.me.0.limits };
  journal = w.journal.items;
  front = w.front;
}

-- The seat is the writer's, no write is under way, and what the writer keeps beside it is what its view says.
pub record IsWriterSeat (w : Inside) : Type 0 where
  pub kind : w.seat.me.0.kind ≡ Writer
  pub logged : w.journal.items ≡ w.seat.me.0.list
  pub placed : w.places.items ≡ w.seat.me.0.places
  pub shown : w.front ≡ w.seat.me.0.front
  pub rests : w.seat.me.0.pending ≡ None
  pub limited : AreRegSizes w.seat.me.0.limits
  pub laid : length w.places.items ≡ total w.seat.me.0.limits
  pub held : ∥ AreOfWritten w.seat.me.0.limits w.seat.me.0.places w.seat.me.0.list ∥₁
  pub short : length w.journal.items ≤ w.seat.me.0.limits.writes
  pub roomy : w.seat.me.0.limits.writes ≤ vec_capacity w.journal
  pub published : w.front ≤ length w.journal.items
  pub slotless : w.seat.me.1 ≡ []
  pub unnamed : last_write w.journal.items (length w.journal.items) (Cookie 0) ≡ 0
