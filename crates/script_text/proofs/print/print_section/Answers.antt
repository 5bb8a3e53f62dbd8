use Rattle.std.proofs.Common.{◌≡◌, ℕ, List, ◌++◌, ap, ◌∙◌}
use Rattle.std.specs.Prelude.{codes, string_bytes}
use Rattle.std.specs.List.{flat_map}
use Rattle.script_text.specs.Lines.{LaneLine}
use Rattle.script_text.specs.Parts.{lines_text, cap_lines}
use Rattle.script_text.specs.Prints.{lane_text}
use Rattle.script_text.proofs.PrintLines.{section_put}
use Rattle.script_text.proofs.print.print_section.Goals as goal

pub returns : goal.returns
returns c =
    let one = string_bytes c.put_text.new.out in
    let two = string_bytes c.put_caps.new.out in
    let three = string_bytes c.put_lanes.new.out in
    let four = string_bytes c.put_desk.new.out in
    let bytes : c.into_bytes.result.items ≡ four = let value = c.into_bytes.ensures.value in cc in
    c.from_vec.ensures ∙ bytes
    ∙ section_put c.args.section.now one two three four
    (c.in_ok-put_text.ensures ∙ ap (λ (t : List ℕ). t ++ codes "section\n") c.new-out.ensures.bytes)
    (c.in_ok-put_caps.ensures ∙ ap (λ (caps : List ℕ). one ++ lines_text (cap_lines caps c.as_slice-2.result.now)) c.as_slice.ensures
    ∙ ap (λ (capture : List ℕ). one ++ lines_text (cap_lines c.args.section.now.caps capture)) c.as_slice-2.ensures)
    (c.in_ok-put_lanes.ensures ∙ ap (λ (lanes : List (List (ℕ × LaneLine))). two ++ flat_map lane_text lanes) c.as_slice-3.ensures)
    c.in_ok-put_desk.ensures
