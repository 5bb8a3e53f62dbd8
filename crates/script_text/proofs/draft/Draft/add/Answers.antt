use Rattle.std.proofs.Common.{refl, subst}
use Rattle.script_text.specs.declared.line.Line.{Line}
use Rattle.script_text.specs.declared.line.Line.TheVariants as lines
use Rattle.script_text.specs.Parts.{cap_lines}
use Rattle.script_text.specs.Drafts.{DraftTakes}
use Rattle.script_text.proofs.PartLines.{ok_fact, draft_more, command_lines, command_numbers, desk_begun_lines, desk_begun_numbers}
use Rattle.script_text.proofs.draft.Draft.add.Goals as goal

pub returns-in-Some-clause-draft : goal.returns-in-Some-clause-draft
returns-in-Some-clause-draft c =
    let d = c.args.self.now in
    ok_fact _ _ _ c.push.ensures.ok (λ pushed.
    draft_more d _ c.args.number (lines.Command c.in-Command.command) c.requires.draft refl c.requires.next c.requires.draft.captured
    (command_lines (cap_lines d.caps d.capture.items) d.lanes d.lane d.desk c.in-Some.desk c.push.new.self c.args.number c.in-Command.command c.in-Some.is pushed)
    (command_numbers d.lanes d.lane d.desk c.in-Some.desk c.push.new.self c.args.number c.in-Command.command c.in-Some.is pushed)
    )

pub returns-in-Desk-clause-draft : goal.returns-in-Desk-clause-draft
returns-in-Desk-clause-draft c =
    let d = c.args.self.now in
    let takes = subst (λ (l : Line). DraftTakes d c.args.number l) c.in-Desk.is c.requires.takes in
    draft_more d _ c.args.number lines.Desk c.requires.draft refl c.requires.next c.requires.draft.captured
    (desk_begun_lines (cap_lines d.caps d.capture.items) d.lanes d.lane d.desk c.new.result takes c.new.ensures)
    (desk_begun_numbers d.lanes d.lane d.desk c.new.result takes c.new.ensures)
