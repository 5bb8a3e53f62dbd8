use Rattle.std.proofs.Common.{◌+◌, length, refl, sym}
use Rattle.script_text.specs.declared.line.Line.TheVariants as lines
use Rattle.script_text.specs.Parts.{cap_lines}
use Rattle.script_text.specs.Drafts.{draft_lines}
use Rattle.script_text.proofs.PartLines.{ok_fact, draft_more, lane_begun_lines, lane_begun_numbers, first_lane_lines, first_lane_numbers, empty_lane}
use Rattle.script_text.proofs.draft.Draft.begin_lane.Goals as goal

pub returns-in-None-clause-draft : goal.returns-in-None-clause-draft
returns-in-None-clause-draft c =
    let d = c.args.self.now in
    let old = sym c.in-None.ensures.value in
    let new = empty_lane c.replace.new.self c.new-empty.result c.replace.ensures.after c.new-empty.ensures in
    draft_more d _ (d.first + length (draft_lines d)) lines.Lane c.requires.draft refl refl c.requires.draft.captured
    (first_lane_lines (cap_lines d.caps d.capture.items) d.lanes d.lane c.replace.new.self d.desk old new c.requires.no_desk)
    (first_lane_numbers d.lanes d.lane c.replace.new.self d.desk old new c.requires.no_desk)

pub returns-in-Some-clause-lines : goal.returns-in-Some-clause-lines
returns-in-Some-clause-lines c = ok_fact _ _ _ c.push.ensures.ok (λ pushed.
    let d = c.args.self.now in
    let new = empty_lane c.replace.new.self c.new-empty.result c.replace.ensures.after c.new-empty.ensures in
    lane_begun_lines (cap_lines d.caps d.capture.items) d.lanes c.push.new.self d.lane c.replace.new.self d.desk c.in-Some.lane (sym c.in-Some.ensures.value) new c.requires.no_desk pushed
    )

pub returns-in-Some-clause-draft : goal.returns-in-Some-clause-draft
returns-in-Some-clause-draft c = ok_fact _ _ _ c.push.ensures.ok (λ pushed.
    let d = c.args.self.now in
    let old = sym c.in-Some.ensures.value in
    let new = empty_lane c.replace.new.self c.new-empty.result c.replace.ensures.after c.new-empty.ensures in
    draft_more d _ (d.first + length (draft_lines d)) lines.Lane c.requires.draft refl refl c.requires.draft.captured
    (lane_begun_lines (cap_lines d.caps d.capture.items) d.lanes c.push.new.self d.lane c.replace.new.self d.desk c.in-Some.lane old new c.requires.no_desk pushed)
    (lane_begun_numbers d.lanes c.push.new.self d.lane c.replace.new.self d.desk c.in-Some.lane old new c.requires.no_desk pushed)
    )
