use Rattle.std.proofs.Common.{refl, sym, subst, append-nil}
use Rattle.std.proofs.Math.Nat.{add-zero}
use Rattle.acct_base.specs.declared.receipt.LineReceipt.TheVariants as line
use Rattle.acct_base.specs.Receipts.{owner_reads}
use Rattle.acct_base.specs.Receipts.Call.{Allow}
use Rattle.hook_engine.specs.Passes.{Called}
use Rattle.hook_engine.specs.Tables.{PassState}
use Rattle.hook_engine.proofs.Reading.{ReadFrom, from_front}
use Rattle.hook_engine.proofs.engine.Engine.allow.Goals as goal

pub returns-clause-called : goal.returns-clause-called
returns-clause-called c = let p = c.pass.inside in let e = c.front-front.ensures in let r = c.look_allow.result in let after = c.look_allow.new.reader in
    let from : ReadFrom p.reader after r.front (owner_reads c.args.sock_uid r) = from_front p.reader c.front-front.new.r after c.front-front.result r.front (owner_reads c.args.sock_uid r) c.look_allow.ensures.front e.answer e.seen e.grows e.reads c.look_allow.ensures.did in
    subst (λ (before : PassState). Called c.args.self.now.sizes.calls c.args.self.now.sizes before.has (Allow c.args.sock_uid c.args.cookie c.args.received) (line.List r) (record {
      left = p.left;
      made = p.made;
      phase = p.hook.phase;
      writes = after.known;
      charges = p.hook.charges;
      apps = p.apps.adds;
      ifaces = p.ifaces.adds;
      reads = after.reads;
    })) c.pass.view_is record {
      obeys = c.look_allow.ensures.obeys;
      front = from.front_from;
      reads_are_true = from.are_true;
      seen_is = from.seen_is;
      knew = from.knew;
      phase_from = tt;
      phase = refl;
      in_turn = λ sole. record { land = tt; on_apps = tt; on_ifaces = tt };
      charges = sym (append-nil p.hook.charges);
      apps = sym (append-nil p.apps.adds);
      ifaces = sym (append-nil p.ifaces.adds);
      reads = from.recorded;
      left = sym (add-zero p.left);
      made = sym (add-zero p.made);
    }
