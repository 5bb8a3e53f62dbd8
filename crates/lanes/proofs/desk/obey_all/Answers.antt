use Rattle.std.proofs.Common.{rules, ◌≡◌, ℕ, refl, sym, ap, ◌∙◌, subst, arith}
use Rattle.std.specs.Prelude.{slice_get, Some, Result, IfOk}
use Rattle.std.specs.declared.alloc.AllocError.{AllocError}
use Rattle.desk_core.specs.declared.command.Command.{Command}
use Rattle.desk_core.specs.declared.command.Reply.{Reply}
use Rattle.collector.specs.Collectors.{gathered_by}
use Rattle.lanes.specs.declared.desk.Control.{Control}
use Rattle.lanes.specs.Controls.{Obeyed}
use Rattle.lanes.proofs.ListLemmas.{at_here, collecting_here, collecting_next, one_collecting}
use Rattle.lanes.proofs.DeskLemmas.{phase_step}
use Rattle.lanes.proofs.StepLemmas.{keeps_trans, desk_step}
use Rattle.lanes.proofs.desk.obey_all.Goals as goal

pub obey-next-requires-clause-phases : goal.obey-next-requires-clause-phases
obey-next-requires-clause-phases g c = λ e.
    let lines = c.args.lines.now in
    let k = c.loop-number.number-index in
    let line : ℕ × Command = c.loop-number-item.result in
    let at : slice_get lines k ≡ Some line = at_here lines k line c.loop-number-test.true ∙ ap (λ (x : ℕ × Command). Some x) (sym c.loop-number-item.is) in
    let one = one_collecting line e in
    let here = collecting_here lines k line at in
    let so_far = c.loop-number.invariant.phases in
    let most = c.requires.phases in
    omega (arith, one, here, so_far, most)

pub loop-number-preserved : goal.loop-number-preserved
loop-number-preserved g c =
    let lines = c.args.lines.now in
    let k = c.loop-number.number-index in
    let line : ℕ × Command = c.loop-number-item.result in
    let at : slice_get lines k ≡ Some line = at_here lines k line c.loop-number-test.true ∙ ap (λ (x : ℕ × Command). Some x) (sym c.loop-number-item.is) in
    let i = c.loop-number.invariant in
    let mid : Control = c.loop-number.control in
    let end : Control = c.obey-next.result.0 in
    let o = c.obey-next.ensures in
    let obeyed : Obeyed mid line.1 c.in-Ok.reply end = subst (λ (r : Result Reply AllocError). IfOk r (λ answer. Obeyed mid line.1 answer end)) c.in-Ok.is o.ok in
    let up = phase_step mid.desk.book.privileged mid.desk.book.limits mid.desk.book.journal (gathered_by mid.collector) line c.in-Ok.reply end.desk.book.journal (gathered_by end.collector) i.level.collector obeyed in
    let next = collecting_next lines k line at in
    let so_far = i.phases in
    record {
      of = o.of;
      level = o.level;
      keeps = keeps_trans _ _ _ i.keeps o.keeps;
      room = search rules;
      count = search rules;
      obeyed = desk_step c.args.control mid end lines k _ _ line (line.0, c.in-Ok.reply) i.keeps at c.push_reserved.ensures.items refl obeyed i.obeyed;
      phases = omega (arith, up, next, so_far);
    }
