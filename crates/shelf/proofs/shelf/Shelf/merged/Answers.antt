use Rattle.std.proofs.Common.{◌≡◌, sym, ap, subst, ◌∙◌, ◌++◌, List, take, arith}
use Rattle.std.proofs.lemmas.List.{take_all}
use Rattle.acct_base.specs.declared.amount.Amount.{Amount}
use Rattle.acct_base.specs.declared.amount.Row.{Row}
use Rattle.acct_base.specs.declared.label.Label.{Label}
use Rattle.acct_base.specs.Amounts.{plus, amount_at, HasRoom}
use Rattle.acct_base.proofs.SumLemmas.{amount_at-append}
use Rattle.shelf.specs.Shelved.{Phases}
use Rattle.shelf.specs.Phases.{snapshot_rows, kept_rows}
use Rattle.shelf.specs.Merged.{IsMerged, amount_of}
use Rattle.shelf.proofs.MergeLemmas.{snapshot_has_room, snapshots_more, merged_amount, merged_rows, given_rows}
use Rattle.shelf.proofs.shelf.Shelf.merged.Goals as goal

pub add_rows-requires : goal.add_rows-requires
add_rows-requires c =
    let items = c.phases-snapshot-items.result.now in
    let live = c.args.live.now in
    let es = c.loop-snapshot.sums.entries in
    let room = subst (λ (ps : Phases). (l : Label) → HasRoom (amount_at (kept_rows ps live) l)) (sym c.phases-snapshot-items.ensures) c.requires.room in
    record {
      room = λ l. subst (λ (rows : List Row). HasRoom (plus (amount_of es l) (amount_at rows l))) (sym c.as_slice.ensures)
          (snapshot_has_room items live c.loop-snapshot.snapshot-index c.loop-snapshot-item.result es c.loop-snapshot-test.true c.loop-snapshot-item.is c.loop-snapshot.invariant room l);
    }

pub loop-snapshot-preserved : goal.loop-snapshot-preserved
loop-snapshot-preserved c =
    let items = c.phases-snapshot-items.result.now in
    let i = c.loop-snapshot.snapshot-index in
    subst (λ (rows : List Row). IsMerged c.add_rows.new.sums.entries rows)
    (ap (λ (rows : List Row). snapshot_rows (take i items) ++ rows) c.as_slice.ensures ∙ sym (snapshots_more items i c.loop-snapshot-item.result c.loop-snapshot-test.true c.loop-snapshot-item.is))
    (c.in_ok-add_rows.ensures (snapshot_rows (take i items)) c.loop-snapshot.invariant)

pub add_rows-requires-2 : goal.add_rows-requires-2
add_rows-requires-2 c =
    let items = c.phases-snapshot-items.result.now in
    let live = c.args.live.now in
    let es = c.loop-snapshot.sums.entries in
    let all : take c.loop-snapshot.snapshot-index items ≡ c.args.self.now.phases = take_all c.loop-snapshot.snapshot-index items (omega (arith, c.loop-snapshot-test.false)) ∙ c.phases-snapshot-items.ensures in
    record {
      room = λ l. subst (λ (a : Amount). HasRoom a)
          (amount_at-append (snapshot_rows c.args.self.now.phases) live.rows l
          ∙ (λ j. plus ((ap (λ (ps : Phases). amount_at (snapshot_rows ps) l) (sym all) ∙ sym (merged_amount es (snapshot_rows (take c.loop-snapshot.snapshot-index items)) l c.loop-snapshot.invariant)) j) (amount_at (sym c.as_slice-2.ensures j) l)))
          (c.requires.room l);
    }

pub returns : goal.returns
returns c =
    let items = c.phases-snapshot-items.result.now in
    let all : take c.loop-snapshot.snapshot-index items ≡ c.args.self.now.phases = take_all c.loop-snapshot.snapshot-index items (omega (arith, c.loop-snapshot-test.false)) ∙ c.phases-snapshot-items.ensures in
    let merged : IsMerged c.add_rows-2.new.sums.entries (kept_rows c.args.self.now.phases c.args.live.now) =
    subst (λ (rows : List Row). IsMerged c.add_rows-2.new.sums.entries rows) ((λ j. snapshot_rows (all j) ++ c.as_slice-2.ensures j))
    (c.in_ok-add_rows-2.ensures (snapshot_rows (take c.loop-snapshot.snapshot-index items)) c.loop-snapshot.invariant) in
    given_rows c.rows_of.result c.rows_of.ensures.rows (merged_rows c.add_rows-2.new.sums.entries (kept_rows c.args.self.now.phases c.args.live.now) c.rows_of.ensures.ordered merged)
