use Rattle.std.proofs.Common.{refl}
use Rattle.script_text.specs.declared.line.Line.TheVariants as lines
use Rattle.script_text.specs.Parts.{cap_lines}
use Rattle.script_text.proofs.PartLines.{ok_fact, draft_more, hook_lines, hook_numbers}
use Rattle.script_text.proofs.draft.Draft.add_hook.Goals as goal

pub returns-clause-draft : goal.returns-clause-draft
returns-clause-draft c =
    let d = c.args.self.now in
    ok_fact _ _ _ c.push.ensures.ok (λ pushed.
    draft_more d _ c.args.number (lines.Hook c.args.hook) c.requires.draft refl c.requires.next c.requires.draft.captured
    (hook_lines (cap_lines d.caps d.capture.items) d.lanes d.lane d.desk c.in-Some.lane c.push.new.self c.args.number c.args.hook c.in-Some.is pushed c.requires.takes.0)
    (hook_numbers d.lanes d.lane d.desk c.in-Some.lane c.push.new.self c.args.number c.args.hook c.in-Some.is pushed c.requires.takes.0)
    )
