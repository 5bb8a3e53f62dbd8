use Rattle.std.proofs.Common.{sym, subst, ◌∙◌}
use Rattle.std.specs.Io.KnownBytes.{Appends}
use Rattle.outside.specs.Outside.{AppendsPrefix}
use Rattle.shelf.specs.Shown.{shown}
use Rattle.dump_text.specs.Dump.{dump}
use Rattle.dump_text.proofs.PageLemmas.{all_written, front_written, on_ok, on_err}
use Rattle.dump_text.proofs.TotalLemmas.{covered_apps}
use Rattle.dump_text.proofs.dump.stream_dump.Goals as goal

pub put_dump-requires-clause-covered : goal.put_dump-requires-clause-covered
put_dump-requires-clause-covered g c = covered_apps (shown c.args.report.now) c.requires.apps

pub returns-clause-ok : goal.returns-clause-ok
returns-clause-ok g c =
    let W = g.K.Sink.written in
    let text = dump (shown c.args.report.now) c.args.receipts in
    let same = sym (c.finish.ensures.puts.same_sink ∙ c.put_dump.ensures.same_sink ∙ c.new-page.ensures.sink.0) in
    let left = c.sink-1.given.1 same in
    on_ok c.finish.result c.finish.ensures.ok (λ ok.
    subst (λ (k : g.row.K.Denot). Appends (W k) (W c.sink-1.given.0) text) c.new-page.ensures.sink.1
    (subst (λ (k : g.row.K.Denot). Appends (W c.new-page.result.sink.now) (W k) text) (sym left)
    (all_written c.new-page.result c.put_dump.new.page c.finish.new.self text c.new-page.ensures.fresh.empty c.put_dump.ensures c.finish.ensures.puts ok.0 ok.1)))

pub returns-clause-prefix : goal.returns-clause-prefix
returns-clause-prefix g c =
    let W = g.K.Sink.written in
    let text = dump (shown c.args.report.now) c.args.receipts in
    let same = sym (c.finish.ensures.puts.same_sink ∙ c.put_dump.ensures.same_sink ∙ c.new-page.ensures.sink.0) in
    let left = c.sink-1.given.1 same in
    on_err c.finish.result
    (subst (λ (k : g.row.K.Denot). AppendsPrefix (W k) (W c.sink-1.given.0) text) c.new-page.ensures.sink.1
    (subst (λ (k : g.row.K.Denot). AppendsPrefix (W c.new-page.result.sink.now) (W k) text) (sym left)
    (front_written c.new-page.result c.put_dump.new.page c.finish.new.self text c.new-page.ensures.fresh.empty c.put_dump.ensures c.finish.ensures.puts)))
