-- What is left of a text behind a part of it.
use Rattle.std.proofs.Common.{◌≡◌, ℕ, ◌+◌, ◌≤◌, List, [], ◌∷◌, ◌++◌, length, drop, refl, ap, ◌∙◌, arith, length-append}
use Rattle.script_text.specs.declared.header.Header.{Header}
use Rattle.script_text.specs.declared.section.Section.{Section}
use Rattle.script_text.specs.declared.limits.Counts.{Counts}
use Rattle.script_text.specs.Parts.{header_lines, header_text, section_lines, section_text}
use Rattle.script_text.specs.Limits.{no_tally, tally_before, header_counts, counts_after}
use Rattle.std.specs.List.{flat_map}
use Rattle.script_text.specs.Script.{script_text, script_counts, counts_behind}
use Rattle.script_text.specs.Faults.{IsPart}
use Rattle.script_text.proofs.Orders.{tallied_bytes}

drop_front : (front behind : List ℕ) → drop (length front) (front ++ behind) ≡ behind
drop_front [] behind = refl
drop_front (x ∷ xs) behind = drop_front xs behind

pub header_bytes : (h : Header) (counts : Counts) → counts ≡ header_counts h → counts.bytes ≡ length (header_text h)
header_bytes h counts is =
    let same : counts.bytes ≡ (header_counts h).bytes = ap (λ (c : Counts). c.bytes) is in
    let told : (header_counts h).bytes ≡ 0 + length (header_text h) = tallied_bytes no_tally (header_lines h) in
    omega (arith, same, told)

pub section_bytes : (before : Counts) (s : Section) (counts : Counts) → counts ≡ counts_after before s → counts.bytes ≡ before.bytes + length (section_text s)
section_bytes before s counts is = ap (λ (c : Counts). c.bytes) is ∙ tallied_bytes (tally_before before) (section_lines s)

pub part_short : (part text : List ℕ) → IsPart part text → length part ≤ length text
part_short part text (rest, read, next) = omega (arith, ap length read, length-append part rest)

pub left_behind : (part text rest : List ℕ) (n : ℕ) → n ≡ length part → rest ≡ drop n text → (p : IsPart part text) → rest ≡ p.0
left_behind part text rest n long back (behind, read, next) = back ∙ ap (λ k. drop k text) long ∙ ap (drop (length part)) read ∙ drop_front part behind

-- ---- the bytes of a script

behind_bytes : (before : Counts) (ss : List Section) → (counts_behind before ss).bytes ≡ before.bytes + length (flat_map section_text ss)
behind_bytes before [] = omega arith
behind_bytes before (s ∷ ss) =
    let here : (counts_after before s).bytes ≡ before.bytes + length (section_text s) = section_bytes before s (counts_after before s) refl in
    let rest = behind_bytes (counts_after before s) ss in
    omega (arith, here, rest, length-append (section_text s) (flat_map section_text ss))

pub script_bytes : (h : Header) (ss : List Section) → (script_counts h ss).bytes ≡ length (script_text h ss)
script_bytes h ss =
    let first : (header_counts h).bytes ≡ length (header_text h) = header_bytes h (header_counts h) refl in
    let rest = behind_bytes (header_counts h) ss in
    omega (arith, first, rest, length-append (header_text h) (flat_map section_text ss))
