use Rattle.std.proofs.Common.{◌<◌, ◌+◌, ◌-◌, ℕ, List, sym, ap, subst, ◌∙◌, append-nil, arith}
use Rattle.acct_base.specs.declared.receipt.LineReceipt.TheVariants as line
use Rattle.acct_base.specs.declared.register.Key.{Key}
use Rattle.acct_base.specs.declared.register.Seen.{Seen}
use Rattle.acct_base.specs.Landings.{LandInTurn, AddInTurn}
use Rattle.acct_base.specs.Receipts.{hook_call, reads_of, charges_of, app_adds_of}
use Rattle.acct_base.specs.Receipts.Call.{Hook}
use Rattle.grace_rows.specs.Seats.{HookState}
use Rattle.total_rows.specs.Seats.{SeatState}
use Rattle.hook_engine.specs.Passes.{Called}
use Rattle.hook_engine.specs.Steps.{DidRead}
use Rattle.hook_engine.specs.Tables.{PassState, EngineState}
use Rattle.hook_engine.proofs.Reading.{ReadFrom, from_front}
use Rattle.hook_engine.proofs.engine.Engine.hook.Goals as goal

pub returns-clause-called : goal.returns-clause-called
returns-clause-called c = let p = c.pass.inside in let own = c.pass.invariant in let engine = c.self.invariant in let e = c.front-front.ensures in let k = c.count-receipt.ensures in
    let call = hook_call c.args.call.now in let r = c.count-receipt.result in let after = c.look-looked.new.reader in
    let read : DidRead c.front-front.new.r after (reads_of call r) = subst (λ (rs : List (Key × Seen)). DidRead c.front-front.new.r after rs) (sym k.reads) c.look-looked.ensures.did in
    let from : ReadFrom p.reader after r.front (reads_of call r) = from_front p.reader c.front-front.new.r after c.front-front.result r.front (reads_of call r) (k.front ∙ c.look-looked.ensures.looked.front_is) e.answer e.seen e.grows e.reads read in
    let some : 0 < p.left = subst (λ (n : ℕ). 0 < n) (sym (ap (λ (s : PassState). s.has.left) c.pass.view_is)) c.requires.left in
    let calls = ap (λ (s : EngineState). s.sizes.calls) c.self.view_is in
    subst (λ (before : PassState). Called c.args.self.now.sizes.calls c.args.self.now.sizes before.has (Hook call) (line.Hook r) (record {
      left = p.left - 1;
      made = p.made + 1;
      phase = c.count-receipt.new.hook.phase;
      writes = after.known;
      charges = c.count-receipt.new.hook.charges;
      apps = c.count-receipt.new.apps.adds;
      ifaces = p.ifaces.adds;
      reads = after.reads;
    })) c.pass.view_is record {
      obeys = k.obeys;
      front = from.front_from;
      reads_are_true = from.are_true;
      seen_is = from.seen_is;
      knew = from.knew;
      phase_from = k.phase_from;
      phase = ap (λ (h : HookState). h.phase) k.hook_is;
      in_turn = λ sole. record {
        land = subst (λ (rows : ℕ). LandInTurn rows p.hook.charges (charges_of call r)) (engine.rows ∙ ap (λ (s : EngineState). s.sizes.rows) c.self.view_is) (k.land (own.hook ∙ sole ∙ sym (engine.map_calls ∙ calls)));
        on_apps = subst (λ (rows : ℕ). AddInTurn rows p.apps.adds (app_adds_of call r)) (engine.apps ∙ ap (λ (s : EngineState). s.sizes.apps) c.self.view_is) (k.on_apps (own.apps ∙ sole ∙ sym (engine.app_calls ∙ calls)));
        on_ifaces = tt;
      };
      charges = ap (λ (h : HookState). h.charges) k.hook_is;
      apps = ap (λ (s : SeatState). s.adds) k.apps_is;
      ifaces = sym (append-nil p.ifaces.adds);
      reads = from.recorded;
      left = omega (arith, some);
      made = omega arith;
    }
