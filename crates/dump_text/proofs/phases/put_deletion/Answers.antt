use Rattle.std.proofs.Common.{List, sym, subst}
use Rattle.std.specs.Prelude.{Option}
use Rattle.acct_base.specs.declared.amount.Row.{Row}
use Rattle.shelf.specs.declared.shelf.Deletion.{Deletion}
use Rattle.dump_text.specs.Dump.{rows_text, deletion_text}
use Rattle.dump_text.specs.Pages.{Puts}
use Rattle.dump_text.proofs.PageLemmas.{chain}
use Rattle.dump_text.proofs.phases.put_deletion.Goals as goal

pub returns-in-Some : goal.returns-in-Some
returns-in-Some g c =
    let rows = subst (λ (rows : List Row). Puts g.K.Sink.written g.K.Sink.faults c.put_deleted.new.page c.put_rows.new.page (rows_text c.args.names.now rows)) c.as_slice.ensures c.put_rows.ensures in
    subst (λ (d : Option Deletion). Puts g.K.Sink.written g.K.Sink.faults c.args.page.now c.put_recorded.new.page (deletion_text c.args.names.now d)) (sym c.in-Some.is)
    (chain (chain c.put_deleted.ensures rows) c.put_recorded.ensures)
