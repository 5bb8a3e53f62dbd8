use Rattle.replay_main.proofs.Outsides.{read_script, checked_script}
use Rattle.replay_main.proofs.outcome.line_of.Goals as goal

pub returns-clause-gives : goal.returns-clause-gives
returns-clause-gives g c = let at = c.in_ok-counts.ensures.counts in (at.0, at.1, (c.in_ok-counts.counts, at.2, c.in_ok-line.ensures))

pub returns-clause-script : goal.returns-clause-script
returns-clause-script g c = let at = c.in_ok-counts.ensures.counts in read_script _ _ at.0 at.1 (checked_script at.0 c.in_ok-counts.counts at.2)
