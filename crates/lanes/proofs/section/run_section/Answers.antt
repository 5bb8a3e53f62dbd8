use Rattle.std.proofs.Common.{◌≡◌, ℕ, List, ap, subst}
use Rattle.shelf.specs.declared.report.SectionOut.{SectionOut}
use Rattle.desk_regs.specs.Desks.{DeskState}
use Rattle.captures.specs.Lent.{section_calls}
use Rattle.lanes.specs.Crews.{progress_of}
use Rattle.lanes.specs.Progress.{Progress}
use Rattle.lanes.specs.Sections.{SectionDone}
use Rattle.lanes.specs.Working.{WentOn}
use Rattle.lanes.proofs.ListLemmas.{if_ok_more}
use Rattle.lanes.proofs.SectionLemmas.{section_follows}
use Rattle.lanes.proofs.section.run_section.Goals as goal

pub returns-clause-ok : goal.returns-clause-ok
returns-clause-ok g c =
    let sizes = c.args.engine.now.sizes in
    let calls = section_calls c.args.calls.now in
    let privileged : List ℕ = c.args.crew.desk.book.privileged in
    let before : Progress = progress_of c.args.crew in
    let start : Progress = progress_of c.meet.new.self in
    let end : Progress = progress_of c.run_between-crew.result.0 in
    let after : Progress = progress_of c.meet-2.new.self in
    let same : c.meet.new.self.desk.book.privileged ≡ privileged = ap (λ (d : DeskState). d.book.privileged) c.meet.ensures.desk in
    if_ok_more (λ (out : SectionOut). WentOn sizes.calls c.meet.new.self.desk.book.privileged sizes start calls end out) (λ (out : SectionOut). SectionDone sizes.calls privileged sizes before calls after out)
    (λ out w. section_follows sizes.calls privileged sizes before calls after out c.requires.crew.whole
    (record {
      start = start;
      end = end;
      met = c.meet.ensures.met;
      went_on = subst (λ (p : List ℕ). WentOn sizes.calls p sizes start calls end out) same w;
      met_again = c.meet-2.ensures.met;
    })) c.run_between-crew.result.1 c.run_between-crew.ensures.ok
