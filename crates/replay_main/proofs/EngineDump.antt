-- In the report of a replay on an engine deletions recorded of no app more than its total.
use Rattle.std.proofs.Common.{sym, subst, arith}
use Rattle.acct_base.specs.declared.amount.Amount.{Amount}
use Rattle.acct_base.specs.Amounts.{IsAtMost}
use Rattle.shelf.specs.Phases.{deleted_app}
use Rattle.replay_main.specs.Replays.{nothing_done, ReplayCovers}
use Rattle.replay_main.proofs.EngineEnds.{still_crew, still_known, fresh_crew}

at_most_through : (a b c : Amount) → IsAtMost a b → IsAtMost b c → IsAtMost a c
at_most_through a b c h k = record {
  rx_packets = omega (arith, h.rx_packets, k.rx_packets);
  rx_bytes = omega (arith, h.rx_bytes, k.rx_bytes);
  tx_packets = omega (arith, h.tx_packets, k.tx_packets);
  tx_bytes = omega (arith, h.tx_bytes, k.tx_bytes);
}

pub replay_covers : ReplayCovers
replay_covers budget asked crew outs rest r =
    let k = still_crew budget asked.privileged asked.sizes (nothing_done budget) asked.sections crew outs r.ran (fresh_crew budget) in
    let known = still_known budget asked.privileged asked.sizes asked.sections crew outs r.ran in
    let apps = r.closed.apps_are in
    record {
      ascend = apps.ascend;
      recorded = λ uid. subst (λ (a : Amount). IsAtMost (deleted_app crew.gathered.phases uid) a) (sym (apps.amounts uid)) (at_most_through _ _ _ (k.level.recorded uid) (known uid));
    }
