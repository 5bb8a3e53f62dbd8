use Rattle.total_rows.specs.declared.plan.Stage.TheVariants.{Reading}
use Rattle.total_rows.proofs.ReadLemmas.{key_of_row}
use Rattle.total_rows.proofs.totals.Totals.read_key.Goals as goal

pub returns-in-Some-clause-read : goal.returns-in-Some-clause-read
returns-in-Some-clause-read c = key_of_row c.args.self.now.calls c.args.key c.args.seat.now.me.0 c.find.new.seat.me.0 c.read_row.new.seat.me.0 c.read_row.result (Reading c.args.key c.in-Some.at.turn) c.requires.rests c.in-Some.ensures.found.1 c.read_row.ensures.read
