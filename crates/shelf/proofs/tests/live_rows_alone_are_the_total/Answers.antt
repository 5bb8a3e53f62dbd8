use Rattle.std.proofs.Common.{List, sym, subst}
use Rattle.acct_base.specs.declared.amount.Row.{Row}
use Rattle.acct_base.specs.Amounts.{HasRoom, amount_at}
use Rattle.shelf.specs.Shelved.{Phases}
use Rattle.shelf.specs.Phases.{snapshot_rows, kept_rows}
use Rattle.shelf.proofs.FrontLemmas.{small_row_has_room, nothing_has_room}
use Rattle.shelf.proofs.tests.live_rows_alone_are_the_total.Goals as goal

pub sum-requires : goal.sum-requires
sum-requires g c = record {
  room = subst (λ (ps : Phases). HasRoom (amount_at (snapshot_rows ps) _)) (sym c.new-shelf.ensures) nothing_has_room;
}

pub merged-requires : goal.merged-requires
merged-requires g c = record {
  room = λ l. subst (λ (ps : Phases). HasRoom (amount_at (kept_rows ps c.in_ok-live.live) l)) (sym c.new-shelf.ensures)
      (subst (λ (rows : List Row). HasRoom (amount_at rows l)) (sym c.in_ok-live.ensures) (small_row_has_room _));
}
