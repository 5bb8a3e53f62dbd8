use Rattle.std.proofs.Common.{sym, subst, ◌∙◌, ap}
use Rattle.desk_core.specs.Book.{BookView}
use Rattle.desk_core.specs.Ranges.{AreApps}
use Rattle.replay_main.proofs.Apps.{header_apps}
use Rattle.replay_main.proofs.EngineSizes.{header_sizes}
use Rattle.replay_main.proofs.EngineOpens.{opened_is}
use Rattle.replay_main.proofs.on_engine.opened.Goals as goal

pub new-requires : goal.new-requires
new-requires c = header_sizes c.args.header.now c.requires.header

pub new-requires-2 : goal.new-requires-2
new-requires-2 c = subst AreApps (sym c.as_slice.ensures) (header_apps c.args.header.now c.requires.header)

pub returns-clause-opened : goal.returns-clause-opened
returns-clause-opened c =
    let e = c.in_ok-engine.ensures in
    let b = c.in_ok-book.ensures in
    opened_is c.args.header.now c.in_ok-engine.engine _ c.in_ok-engine.seats.writer c.in_ok-engine.seats.collect c.in_ok-engine.seats.apps c.in_ok-book.book e.sizes e.pass e.seats c.new-4.ensures.desk c.new-4.ensures.level
    c.new-5.ensures.collector c.new-5.ensures.level e.collector.0 e.collector.1 e.knows
    (ap (λ (v : BookView). v.journal) b) (ap (λ (v : BookView). v.privileged) b ∙ c.as_slice.ensures)
