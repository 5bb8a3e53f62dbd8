use Rattle.std.proofs.Common.{◌≡◌, ◌≤◌, ℕ, ◌∷◌, ◌++◌, [], sym, subst}
use Rattle.std.specs.Prelude.{slice_get, Some}
use Rattle.std.specs.List.{AllByRecursion}
use Rattle.acct_base.specs.declared.amount.Snapshot.{Snapshot}
use Rattle.acct_base.specs.declared.charge.Charge.{Charge}
use Rattle.acct_base.specs.Sums.{AreTotals, HoldsPhase}
use Rattle.hook_engine.specs.Tables.{EngineState, PassState}
use Rattle.hook_engine.specs.Ends.{EngineClosed}
use Rattle.hook_engine.proofs.Ending.{with_last}
use Rattle.hook_engine.proofs.engine.Engine.end.Goals as goal

pub returns-clause-rest : goal.returns-clause-rest
returns-clause-rest c = let e = c.self.inside in let p = c.pass.inside in let own = c.self.invariant in let live = c.live_rows.ensures in let given = c.args.seats.collect.snapshots in
    subst (λ (z : EngineState × PassState). EngineClosed z.0.sizes z.1.has given c.args.seats.writer.journal (record {
      live = c.live_rows.result;
      journal = c.all_writes.result;
      apps = c.all_totals.result;
      ifaces = c.all_totals-2.result;
    })) (λ i. (c.self.view_is i, c.pass.view_is i)) record {
      journal_is = c.all_writes.ensures;
      phases = subst (λ (rows : ℕ). (n : ℕ) (s : Snapshot) → slice_get (given ++ c.live_rows.result ∷ []) n ≡ Some s → HoldsPhase rows p.hook.charges n s) own.rows
          (with_last (λ n s. HoldsPhase e.paired.rows p.hook.charges n s) given c.live_rows.result live.snapshots
          (subst (λ (n : ℕ). HoldsPhase e.paired.rows p.hook.charges n c.live_rows.result) (sym live.phases) live.live));
      bounded = subst (λ (n : ℕ). AllByRecursion (λ (c : Charge). c.phase ≤ n) p.hook.charges) (sym live.phases) live.bounded;
      apps_are = subst (λ (rows : ℕ). AreTotals rows p.apps.adds c.all_totals.result) own.apps c.all_totals.ensures.totals;
      ifaces_are = subst (λ (rows : ℕ). AreTotals rows p.ifaces.adds c.all_totals-2.result) own.ifaces c.all_totals-2.ensures.totals;
    }
