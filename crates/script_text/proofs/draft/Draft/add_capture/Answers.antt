use Rattle.std.proofs.Common.{◌≡◌, ◌+◌, length, refl, sym, ap, arith, length-append}
use Rattle.std.proofs.lemmas.List.{append-nil}
use Rattle.script_text.specs.declared.line.Line.TheVariants as lines
use Rattle.script_text.specs.Parts.{sum_of}
use Rattle.script_text.specs.Drafts.{draft_lines, draft_numbers}
use Rattle.script_text.proofs.PartLines.{ok_fact, cap_added_lines, draft_more, sum_push}
use Rattle.script_text.proofs.draft.Draft.add_capture.Goals as goal

pub returns-clause-lines : goal.returns-clause-lines
returns-clause-lines c =
    ok_fact _ _ _ c.push.ensures.ok (λ pushed. cap_added_lines c.args.self.now c.push.new.self c.extend_from_slice.new.self.items c.args.bytes.now (length c.args.bytes.now) c.requires.first c.requires.draft.captured pushed c.in_ok-extend_from_slice.ensures.items refl)

pub returns-clause-draft : goal.returns-clause-draft
returns-clause-draft c = ok_fact _ _ _ c.push.ensures.ok (λ pushed.
    let d = c.args.self.now in
    let more = cap_added_lines d c.push.new.self c.extend_from_slice.new.self.items c.args.bytes.now (length c.args.bytes.now) c.requires.first c.requires.draft.captured pushed c.in_ok-extend_from_slice.ensures.items refl in
    let captured : sum_of c.push.new.self ≡ length c.extend_from_slice.new.self.items =
    omega (arith, c.requires.draft.captured, ap sum_of pushed, sum_push d.caps (length c.args.bytes.now), ap length c.in_ok-extend_from_slice.ensures.items, length-append d.capture.items c.args.bytes.now) in
    draft_more d _ (d.first + length (draft_lines d)) (lines.Cap c.args.bytes.now) c.requires.draft refl refl captured more (sym (append-nil (draft_numbers d)))
    )
