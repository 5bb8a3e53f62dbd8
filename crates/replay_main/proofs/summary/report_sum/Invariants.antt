use Rattle.std.proofs.Common.{◌≡◌, take}
use Rattle.acct_base.specs.Amounts.{total_by}
use Rattle.replay_main.specs.Summary.{row_amount}
use Rattle.replay_main.proofs.Totals.{snapshot_total}
use Rattle.replay_main.proofs.summary.report_sum.Given as goal

abbrev pub invariant-loop-snapshot : goal.invariant-loop-snapshot
invariant-loop-snapshot l = l.sum ≡ total_by (snapshot_total (row_amount l.tagged)) (take l.snapshot-index l.snapshot-items)
