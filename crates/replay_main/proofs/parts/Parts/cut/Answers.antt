use Rattle.std.proofs.Common.{rules}
use Rattle.replay_main.proofs.Feeding.{fed_from, all_fed, rest_fed, rest_begins}
use Rattle.replay_main.proofs.parts.Parts.cut.Goals as goal

pub returns-in-More-clause-none : goal.returns-in-More-clause-none
returns-in-More-clause-none c =
    let p = c.args.self.now in
    all_fed p.cutter c.feed.new.self p.piece.items p.fed p.filled c.in_ok-feed.field-0 c.in-More.is (fed_from p.cutter c.feed.new.self c.deref.result.now p.piece.items p.fed p.filled c.in_ok-feed.field-0 (search rules) c.in_ok-feed.ensures.feeds)

pub returns-in-Part-clause-cut : goal.returns-in-Part-clause-cut
returns-in-Part-clause-cut c =
    let p = c.args.self.now in
    rest_fed p.cutter c.feed.new.self p.piece.items p.fed p.filled c.in-Part.taken c.in-Part.part c.in_ok-feed.field-0 c.in-Part.is c.requires.reader.fed_is (fed_from p.cutter c.feed.new.self c.deref.result.now p.piece.items p.fed p.filled c.in_ok-feed.field-0 (search rules) c.in_ok-feed.ensures.feeds)

pub returns-in-Part-clause-begins : goal.returns-in-Part-clause-begins
returns-in-Part-clause-begins c =
    let p = c.args.self.now in
    rest_begins p.cutter c.feed.new.self p.piece.items p.fed p.filled c.in-Part.taken c.in-Part.part c.in_ok-feed.field-0 c.in-Part.is c.requires.reader.fed_is (fed_from p.cutter c.feed.new.self c.deref.result.now p.piece.items p.fed p.filled c.in_ok-feed.field-0 (search rules) c.in_ok-feed.ensures.feeds)
