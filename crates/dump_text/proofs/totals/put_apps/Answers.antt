use Rattle.std.proofs.Common.{ℕ, List, sym, subst}
use Rattle.std.specs.List.{All, flat_map}
use Rattle.acct_base.specs.declared.amount.Amount.{Amount}
use Rattle.shelf.specs.Shelved.{Phases}
use Rattle.dump_text.specs.Dump.{app_left_text}
use Rattle.dump_text.specs.Pages.{Puts}
use Rattle.dump_text.specs.Room.{IsCovered}
use Rattle.dump_text.proofs.PageLemmas.{chain}
use Rattle.dump_text.proofs.totals.put_apps.Goals as goal

pub put_apps_left-requires : goal.put_apps_left-requires
put_apps_left-requires g c = record {
  covered = subst (λ (ps : Phases). All (IsCovered ps) c.as_slice.result.now) (sym c.phases.ensures)
      (subst (λ (ts : List (ℕ × Amount)). All (IsCovered c.args.shelf.now.phases) ts) (sym c.as_slice.ensures) c.requires.covered);
}

pub returns : goal.returns
returns g c =
    let W = g.K.Sink.written in
    let left = subst (λ (ps : Phases). Puts W g.K.Sink.faults c.put.new.self c.put_apps_left.new.page (flat_map (app_left_text ps) c.args.apps.now)) c.phases.ensures
    (subst (λ (ts : List (ℕ × Amount)). Puts W g.K.Sink.faults c.put.new.self c.put_apps_left.new.page (flat_map (app_left_text c.phases.result.now) ts)) c.as_slice.ensures c.put_apps_left.ensures) in
    chain c.put.ensures left
