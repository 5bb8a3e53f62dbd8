-- How a reader's seat shows what the reader has.
use Rattle.std.specs.Prelude.{◌≡◌, [], length}
use Rattle.acct_base.specs.declared.register.Key.TheVariants.{Cookie}
use Rattle.acct_base.specs.Journal.{last_write}
use Rattle.reg_words.specs.declared.reader.Reader.TheInside.{Inside}
use Rattle.reg_words.specs.declared.view.Kind.TheVariants.{Reader}
use Rattle.reg_words.specs.declared.view.Stage.TheVariants.{Idle}
use Rattle.reg_words.specs.Seats.{ReaderState}

-- The view of the seat, without what only the rule of the table needs.
abbrev pub reader_state : Inside → ReaderState
reader_state r = record {
  origin = record { table = r.seat.table_id; limits = r.seat.me.0.limits };
  known = r.seat.me.0.list;
  loads = r.seat.me.0.loads;
  loaded = r.seat.me.0.loaded;
  reads = r.seat.me.0.reads;
}

-- The seat is a reader's, no read is under way, and no write that it knows is to Cookie(0).
pub record IsReaderSeat (r : Inside) : Type 0 where
  pub kind : r.seat.me.0.kind ≡ Reader
  pub rests : r.seat.me.0.stage ≡ Idle
  pub counted : r.seen ≡ length r.seat.me.0.list
  pub slotless : r.seat.me.1 ≡ []
  pub unnamed : last_write r.seat.me.0.list (length r.seat.me.0.list) (Cookie 0) ≡ 0
