use Rattle.std.proofs.Common.{ℕ, List, subst}
use Rattle.acct_base.specs.declared.amount.Row.{Row}
use Rattle.shelf.specs.declared.counts.CallCounts.{CallCounts}
use Rattle.dump_text.specs.Dump.{calls_text, writes_text, total_text}
use Rattle.dump_text.specs.Pages.{Puts}
use Rattle.dump_text.proofs.PageLemmas.{chain}
use Rattle.dump_text.proofs.dump.put_dump.Goals as goal

pub returns : goal.returns
returns g c =
    let calls = subst (λ (counts : CallCounts). Puts g.K.Sink.written g.K.Sink.faults c.put.new.self c.put_calls.new.page (calls_text counts)) c.requires.counts c.put_calls.ensures in
    let writes = subst (λ (n : ℕ). Puts g.K.Sink.written g.K.Sink.faults c.put_calls.new.page c.put_writes.new.page (writes_text n c.args.report.now.live.phase)) c.len.ensures c.put_writes.ensures in
    let total = subst (λ (rows : List Row). Puts g.K.Sink.written g.K.Sink.faults c.put_live.new.page c.put_total.new.page (total_text c.args.report.now.names rows)) c.requires.rows c.put_total.ensures in
    let head = chain (chain (chain c.put.ensures calls) writes) c.put_replies.ensures in
    let phases = chain (chain (chain head c.put_receipts.ensures) c.put_phases.ensures) c.put_live.ensures in
    chain (chain (chain (chain phases total) c.put_apps.ensures) c.put_ifaces.ensures) c.put-2.ensures
