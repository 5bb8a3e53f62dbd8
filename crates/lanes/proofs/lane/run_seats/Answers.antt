use Rattle.std.proofs.Common.{rules, List, sym, subst}
use Rattle.std.specs.Fork.{ChangesEach}
use Rattle.lanes.specs.declared.lane.Seated.{Seated}
use Rattle.lanes.proofs.ListLemmas.{written_back}
use Rattle.lanes.proofs.lane.run_seats.Goals as goal

pub returns-clause-changes : goal.returns-clause-changes
returns-clause-changes g c = subst (λ (l : List Seated). ChangesEach g.F.Fn c.args.each.now c.args.seats.items l) (sym (written_back _ c.for_each_mut.new.s _ (search rules)))
    (subst (λ (l : List Seated). ChangesEach g.F.Fn c.args.each.now l c.for_each_mut.new.s) c.as_mut_slice.ensures.value c.for_each_mut.ensures)
