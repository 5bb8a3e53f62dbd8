use Rattle.std.proofs.Common.{ap, sym, subst, ◌∙◌, length}
use Rattle.shelf.specs.Shelved.{Phases}
use Rattle.acct_plain.specs.Kept.{Tables, Keeps}
use Rattle.acct_plain.proofs.Items.{rows_are, totals_are}
use Rattle.acct_plain.proofs.plain.Plain.finish.Goals as goal

pub returns : goal.returns
returns c = λ past n old.
    let f = c.self.inside in
    let k = subst (λ (t : Tables). Keeps t past n) (sym c.self.view_is) old in
    let phase = c.len-phase.ensures ∙ ap (λ (ps : Phases). length ps) k.phases in
    let rows = c.in_ok-rows.ensures.rows ∙ rows_are past.charges (length past.phases) f.rows c.in_ok-rows.ensures.ordered k.rows in
    let apps = c.in_ok-apps.ensures.totals ∙ totals_are past.apps f.apps c.in_ok-apps.ensures.ordered k.apps in
    let ifaces = c.in_ok-ifaces.ensures.totals ∙ totals_are past.ifaces f.ifaces c.in_ok-ifaces.ensures.ordered k.ifaces in
    let journal = c.into_journal.ensures ∙ k.journal in
    λ i. record {
      names = c.args.names;
      sections = c.args.sections;
      journal = journal i;
      phases = k.phases i;
      live = record { phase = phase i; rows = rows i };
      apps = apps i;
      ifaces = ifaces i;
    }
