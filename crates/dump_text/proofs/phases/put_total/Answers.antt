use Rattle.std.proofs.Common.{List, subst}
use Rattle.acct_base.specs.declared.amount.Row.{Row}
use Rattle.dump_text.specs.Dump.{rows_text}
use Rattle.dump_text.specs.Pages.{Puts}
use Rattle.dump_text.proofs.PageLemmas.{chain}
use Rattle.dump_text.proofs.phases.put_total.Goals as goal

pub returns : goal.returns
returns g c =
    let rows = subst (λ (rows : List Row). Puts g.K.Sink.written g.K.Sink.faults c.put.new.self c.put_rows.new.page (rows_text c.args.names.now rows)) c.as_slice.ensures c.put_rows.ensures in
    chain c.put.ensures rows
