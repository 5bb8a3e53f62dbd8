use Rattle.std.proofs.Common.{refl, ap, subst, ◌∙◌, ◌++◌, ◌∷◌, [], length, arith}
use Rattle.shelf.specs.Shelved.{Phases}
use Rattle.acct_plain.specs.Kept.{Tables, Keeps}
use Rattle.acct_plain.specs.Ending.{IsEnded}
use Rattle.acct_plain.proofs.plain.Plain.end_phase.Goals as goal

pub returns-clause-ok : goal.returns-clause-ok
returns-clause-ok c =
    let f = c.self.inside in
    let q : Tables = record { sizes = f.sizes; book = c.write.new.book; phases = c.put.new.self.phases; rows = c.new.result; apps = f.apps; ifaces = f.ifaces; recorded = c.write.new.recorded } in
    subst (λ (t : Tables). IsEnded t q c.args.drop c.args.decision.now.writes) c.self.view_is (record {
      sizes = refl;
      book = c.in_ok-write.ensures.ok;
      phases = λ past n k.
          let ended = c.in_ok-snapshot.ensures past n (subst (λ (t : Tables). Keeps t past n) c.self.view_is k) in
          c.put.ensures ∙ (λ i. c.reserve.ensures.phases i ++ ended i ∷ []);
      rows = c.new.ensures;
      apps = refl;
      ifaces = refl;
      recorded = c.in_ok-write.ensures.recorded;
    })

pub put-requires-clause-few : goal.put-requires-clause-few
put-requires-clause-few c =
    let (past, n, le, k) = c.requires.room in
    let few = k.few_phases in
    let same = ap (λ (ps : Phases). length ps) (c.reserve.ensures.phases ∙ ap (λ (t : Tables). t.phases) c.self.view_is ∙ k.phases) in
    omega (arith, few, same)
