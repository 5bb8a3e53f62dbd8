-- The generated script is a script.
use Rattle.std.proofs.Common.{◌≡◌, ℕ, zero, suc, ◌+◌, ◌-◌, ◌*◌, ◌<◌, ◌≤◌, List, [], ◌∷◌, ◌++◌, length, length-append, refl, sym, ap, subst, ◌∙◌, append_assoc, append-nil, arith, inl}
use Rattle.std.specs.Prelude.{codes}
use Rattle.std.specs.List.{AllByRecursion, AllZip, flat_map, range_with_len}
use Rattle.std.proofs.lemmas.List.{take_all}
use Rattle.script_text.specs.declared.line.Line.{Line}
use Rattle.script_text.specs.declared.header.Header.{Header}
use Rattle.script_text.specs.declared.section.Section.{Section}
use Rattle.script_text.specs.declared.limits.Counts.{Counts}
use Rattle.script_text.specs.declared.limits.Tally.{Tally}
use Rattle.script_text.specs.Parts.{default_sizes, section_lines, section_text}
use Rattle.script_text.specs.Limits.{tallied, tally_before, header_counts, counts_after, IsSmall}
use Rattle.script_text.specs.Script.{IsFirstHeader, IsNextSection, AreSections, script_text}
use Rattle.script_text.proofs.Orders.{tallied_bytes}
use Rattle.captures.specs.Calls.{SectionCalls, IsSectionInRange}
use Rattle.captures.specs.Sections.{AreCalls}
use Rattle.outside.specs.Generated.{for_each, desk_section, lanes_section, round_text, generated}
use Rattle.replay_main.specs.Judged.{IsJudged, IsScriptText}
use Rattle.replay_main.specs.Generated.{GeneratedIsScript}
use Rattle.replay_main.proofs.GeneratedLines.{IsShort}
use Rattle.replay_main.proofs.GeneratedLimits.{Grows, keep_limits, lines_short}
use Rattle.replay_main.proofs.GeneratedSections.{desk_part, desk_text_is, desk_is, desk_short, desk_grows, desk_calls, desk_calls_are, desk_in_range, lanes_part, lanes_text_is, lanes_is, lanes_short, lanes_long, lanes_grow, lanes_calls, lanes_calls_are, lanes_in_range}

-- ---- the header

abbrev bare_header : Header
bare_header = record { sizes = default_sizes; maps = []; privileged = []; names = [] }

first_header : IsFirstHeader bare_header
first_header = record {
  header = record { fits = ((tt, (tt, tt)), tt); order = (record { follows_is = refl; fresh_is = refl }, tt); sizes_are = refl };
  limits = (refl, (refl, tt));
}

-- ---- the rounds

-- So much is counted before a round.
record At (round : ℕ) (c : Counts) : Type 0 where
  lines : c.lines ≡ 1 + 267 * round
  bytes : c.bytes ≤ 100 * c.lines
  sections : c.sections ≡ 2 * round
  hooks : c.hooks ≡ 256 * round
  desk_lines : c.desk_lines ≡ 4 * round
  collections : c.collections ≡ round

-- And so much before the second section of a round.
record Within (round : ℕ) (c : Counts) : Type 0 where
  lines : c.lines ≡ 7 + 267 * round
  bytes : c.bytes ≤ 100 * c.lines
  sections : c.sections ≡ 2 * round + 1
  hooks : c.hooks ≡ 256 * round
  desk_lines : c.desk_lines ≡ 4 * round + 4
  collections : c.collections ≡ round + 1

bytes_then : (c : Counts) (ls : List Line) → AllByRecursion IsShort ls → c.bytes ≤ 100 * c.lines → (tallied (tally_before c) ls).bytes ≤ 100 * (c.lines + length ls)
bytes_then c ls short few = omega (arith, tallied_bytes (tally_before c) ls, lines_short ls short, few)

desk_next : (round line : ℕ) (c : Counts) → round < 1000 → line ≡ c.lines + 1 → At round c → IsNextSection c (desk_part line round) × Within round (counts_after c (desk_part line round))
desk_next round line c few is at =
    let ls = section_lines (desk_part line round) in
    let u : Tally = tallied (tally_before c) ls in
    let g : Grows (tally_before c) u 1 0 0 4 1 = desk_grows (tally_before c) line round in
    let short = desk_short line round in
    let bytes : u.bytes ≤ 100 * (c.lines + 6) = bytes_then c ls short at.bytes in
    let lines = at.lines in
    let small : IsSmall u = record {
      bytes_fit = omega (arith, bytes, lines, few);
      privs_fit = omega (arith, g.privs);
      ifs_fit = omega (arith, g.ifs);
      sections_fit = omega (arith, g.sections_are, at.sections, few);
      capture_fits = omega (arith, g.capture);
      lanes_fit = omega (arith, g.lanes_are);
      hooks_fit = omega (arith, g.hooks_are, at.hooks, few);
      desk_lines_fit = omega (arith, g.desk_lines_are, at.desk_lines, few);
      collections_fit = omega (arith, g.collections_are, at.collections, few);
    } in (
      record { section = desk_is line round; first = is; limits = keep_limits (tally_before c) ls short small },
      record {
        lines = omega (arith, lines);
        bytes = bytes;
        sections = omega (arith, g.sections_are, at.sections);
        hooks = omega (arith, g.hooks_are, at.hooks);
        desk_lines = omega (arith, g.desk_lines_are, at.desk_lines);
        collections = omega (arith, g.collections_are, at.collections);
      },
    )

lanes_next : (round line : ℕ) (c : Counts) → round < 1000 → line ≡ c.lines + 1 → Within round c → IsNextSection c (lanes_part line) × At (round + 1) (counts_after c (lanes_part line))
lanes_next round line c few is at =
    let ls = section_lines (lanes_part line) in
    let u : Tally = tallied (tally_before c) ls in
    let g : Grows (tally_before c) u 1 4 256 0 0 = lanes_grow (tally_before c) line in
    let short = lanes_short line in
    let long = lanes_long line in
    let bytes : u.bytes ≤ 100 * (c.lines + length ls) = bytes_then c ls short at.bytes in
    let lines = at.lines in
    let small : IsSmall u = record {
      bytes_fit = omega (arith, bytes, lines, few, long);
      privs_fit = omega (arith, g.privs);
      ifs_fit = omega (arith, g.ifs);
      sections_fit = omega (arith, g.sections_are, at.sections, few);
      capture_fits = omega (arith, g.capture);
      lanes_fit = omega (arith, g.lanes_are);
      hooks_fit = omega (arith, g.hooks_are, at.hooks, few);
      desk_lines_fit = omega (arith, g.desk_lines_are, at.desk_lines, few);
      collections_fit = omega (arith, g.collections_are, at.collections, few);
    } in (
      record { section = lanes_is line; first = is; limits = keep_limits (tally_before c) ls short small },
      record {
        lines = omega (arith, lines, long);
        bytes = bytes;
        sections = omega (arith, g.sections_are, at.sections);
        hooks = omega (arith, g.hooks_are, at.hooks);
        desk_lines = omega (arith, g.desk_lines_are, at.desk_lines);
        collections = omega (arith, g.collections_are, at.collections);
      },
    )

-- ---- the sections, from a round and its first line on

unfoldable sections_from : ℕ → ℕ → ℕ → List Section
sections_from line round zero = []
sections_from line round (suc n) = desk_part line round ∷ lanes_part (line + 6) ∷ sections_from (line + 267) (round + 1) n

unfoldable calls_from : ℕ → ℕ → ℕ → List SectionCalls
calls_from line round zero = []
calls_from line round (suc n) = desk_calls line round ∷ lanes_calls (line + 6) ∷ calls_from (line + 267) (round + 1) n

are_sections : (c : Counts) (line round n : ℕ) → round + n ≤ 1000 → line ≡ c.lines + 1 → At round c → AreSections c (sections_from line round n)
unfolding sections_from
are_sections c line round zero le is at = tt
are_sections c line round (suc n) le is at =
    let few : round < 1000 = omega (arith, le) in
    let first = desk_next round line c few is at in
    let mid = counts_after c (desk_part line round) in
    let mid_lines = first.1.lines in
    let lines = at.lines in
    let second = lanes_next round (line + 6) mid few (omega (arith, is, mid_lines, lines)) first.1 in
    let end = counts_after mid (lanes_part (line + 6)) in
    let end_lines = second.1.lines in
    (first.0, (second.0, are_sections end (line + 267) (round + 1) n (omega (arith, le)) (omega (arith, is, lines, end_lines)) second.1))

sections_text : (line round n : ℕ) → flat_map section_text (sections_from line round n) ≡ flat_map round_text (range_with_len round n)
unfolding sections_from
sections_text line round zero = refl
sections_text line round (suc n) =
    let rest = flat_map round_text (range_with_len (round + 1) n) in
    (λ i. desk_text_is line round i ++ (lanes_text_is (line + 6) i ++ sections_text (line + 267) (round + 1) n i)) ∙ sym (append_assoc (desk_section round) lanes_section rest)

sections_calls : (line round n : ℕ) → AllZip AreCalls (sections_from line round n) (calls_from line round n)
unfolding sections_from calls_from
sections_calls line round zero = tt
sections_calls line round (suc n) = (desk_calls_are line round, (lanes_calls_are (line + 6), sections_calls (line + 267) (round + 1) n))

calls_in_range : (line round n : ℕ) → AllByRecursion IsSectionInRange (calls_from line round n)
unfolding calls_from
calls_in_range line round zero = tt
calls_in_range line round (suc n) = (desk_in_range line round, (lanes_in_range (line + 6), calls_in_range (line + 267) (round + 1) n))

sections_long : (line round n : ℕ) → length (flat_map section_text (sections_from line round n)) ≤ 26700 * n
unfolding sections_from
sections_long line round zero = omega arith
sections_long line round (suc n) =
    let desk : length (section_text (desk_part line round)) ≤ 600 = lines_short (section_lines (desk_part line round)) (desk_short line round) in
    let lanes_size = lines_short (section_lines (lanes_part (line + 6))) (lanes_short (line + 6)) in
    let long = lanes_long (line + 6) in
    let lanes : length (section_text (lanes_part (line + 6))) ≤ 26100 = omega (arith, lanes_size, long) in
    let rest = flat_map section_text (sections_from (line + 267) (round + 1) n) in
    let behind = section_text (lanes_part (line + 6)) ++ rest in
    omega (arith, length-append (section_text (desk_part line round)) behind, length-append (section_text (lanes_part (line + 6))) rest, desk, lanes, sections_long (line + 267) (round + 1) n)

-- ---- the script

for_each-all : (n : ℕ) → for_each 0 n round_text ≡ flat_map round_text (range_with_len 0 n)
unfolding for_each
for_each-all n = let same : n - 0 ≡ n = omega arith in ap (λ (k : ℕ). flat_map round_text (range_with_len 0 k)) same

at_first : At 0 (header_counts bare_header)
at_first = record { lines = refl; bytes = omega arith; sections = refl; hooks = refl; desk_lines = refl; collections = refl }

pub generated_is : GeneratedIsScript
generated_is n are =
    let sections = sections_from 2 0 n in
    let calls = calls_from 2 0 n in
    let whole : generated n ≡ script_text bare_header sections = ap (λ (t : List ℕ). codes "netacct 1\n" ++ t) (for_each-all n ∙ sym (sections_text 2 0 n)) in
    let judged : IsJudged (generated n) bare_header sections calls = record {
      script = record { header_is = first_header; sections_are = are_sections (header_counts bare_header) 2 0 n (omega (arith, are.1)) refl at_first };
      read = whole ∙ sym (append-nil (script_text bare_header sections));
      calls_are = sections_calls 2 0 n;
      next = inl refl;
    } in
    let size : length (generated n) ≡ length (script_text bare_header sections) = ap length whole in
    let few : length (generated n) ≤ 268435457 = omega (arith, size, length-append (codes "netacct 1\n") (flat_map section_text sections), sections_long 2 0 n, are.1) in
    record {
      header = bare_header;
      sections = sections;
      calls = calls;
      judged = judged;
      ranges = calls_in_range 2 0 n;
      looks_so = subst IsScriptText (sym (take_all 268435457 (generated n) few)) (bare_header, sections, calls, judged);
    }
