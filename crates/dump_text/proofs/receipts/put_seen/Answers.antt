use Rattle.std.proofs.Common.{ℕ, List, subst}
use Rattle.dump_text.specs.Forms.{spelled}
use Rattle.dump_text.specs.Pages.{Puts}
use Rattle.dump_text.proofs.PageLemmas.{chain}
use Rattle.dump_text.proofs.SeenLemmas.{unwritten}
use Rattle.dump_text.proofs.receipts.put_seen.Goals as goal

pub returns-then-seen-eq0 : goal.returns-then-seen-eq0
returns-then-seen-eq0 g c =
    subst (λ (text : List ℕ). Puts {K = g.row.K.Denot} g.K.Sink.written g.K.Sink.faults c.args.page.now c.put.new.self text)
    (unwritten (spelled c.args.form) c.args.seen c.if-seen-eq0.true) c.put.ensures

pub returns : goal.returns
returns g c = chain c.short_number.ensures (chain c.put_byte.ensures (c.put_seen_value.ensures))
