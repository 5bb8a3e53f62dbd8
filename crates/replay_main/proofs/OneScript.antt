-- Two scripts at the front of one text.
use Rattle.std.proofs.Common.{◌≡◌, ◌⊎◌, ℕ, ◌+◌, List, [], ◌∷◌, ◌++◌, length, refl, sym, subst, ◌∙◌, append_assoc, arith, inl, inr}
use Rattle.std.specs.Prelude.{codes}
use Rattle.std.specs.List.{flat_map, AllZip}
use Rattle.script_text.specs.declared.place.Place.TheVariants.{Start, Next}
use Rattle.script_text.specs.declared.header.Header.{Header}
use Rattle.script_text.specs.declared.section.Section.{Section}
use Rattle.script_text.specs.declared.limits.Counts.{Counts}
use Rattle.script_text.specs.Parts.{header_lines, header_text, section_lines, section_text}
use Rattle.script_text.specs.Limits.{no_tally, tally_before, tallied, counts_of, header_counts, counts_after}
use Rattle.script_text.specs.Faults.{BeginsSection, IsNextPart}
use Rattle.script_text.specs.Script.{IsFirstHeader, IsNextSection, AreSections, counts_behind, script_counts}
use Rattle.script_text.specs.Laws.{AreLinesOf}
use Rattle.script_text.proofs.Readings.{part_same}
use Rattle.captures.specs.Calls.{SectionCalls}
use Rattle.captures.specs.Sections.{AreCalls}
use Rattle.replay_main.specs.Judged.{IsJudgedTo}

-- ---- parts

pub section_begins_text : (s : Section) (more : List ℕ) → BeginsSection (section_text s ++ more)
section_begins_text s more = (_, append_assoc (codes "section\n") _ more)

sections_next : (ss : List Section) (rest : List ℕ) → IsNextPart rest → IsNextPart (flat_map section_text ss ++ rest)
sections_next [] rest next = next
sections_next (s ∷ ss) rest next = inr (let begins = section_begins_text s (flat_map section_text ss ++ rest) in (begins.0, append_assoc (section_text s) (flat_map section_text ss) rest ∙ begins.1))

pub texts_next : (ss : List Section) → IsNextPart (flat_map section_text ss)
texts_next [] = inl refl
texts_next (s ∷ ss) = inr (section_begins_text s (flat_map section_text ss))

pub section_part : (before : Counts) (s : Section) (bytes more : List ℕ) → IsNextSection before s → bytes ≡ section_text s ++ more → IsNextPart more → AreLinesOf Next (section_lines s) bytes more
section_part before s bytes more is text next = record { some = omega arith; fits = is.section.fits; order = is.section.order; text = text; next = next }

pub header_part : (h : Header) (bytes more : List ℕ) → IsFirstHeader h → bytes ≡ header_text h ++ more → IsNextPart more → AreLinesOf Start (header_lines h) bytes more
header_part h bytes more is text next = record { some = omega arith; fits = is.header.fits; order = is.header.order; text = text; next = next }

-- ---- sections side by side

-- a section with calls goes on there, behind what these counts are of
pub record GoesOnAt (before : Counts) (rest : List ℕ) : Type 0 where
  pub section : Section
  pub calls : SectionCalls
  pub more : List ℕ
  pub is : IsNextSection before section
  pub calls_are : AreCalls section calls
  pub read : rest ≡ section_text section ++ more
  pub next : IsNextPart more

-- the one goes on where the other ends, or they end at one place with the same counts
abbrev pub Meet : Counts → List ℕ → Counts → List ℕ → Type 0
Meet one rest two other = GoesOnAt two other ⊎ (GoesOnAt one rest ⊎ ((one ≡ two) × (rest ≡ other)))

goes_on_with : (before now : Counts) (s : Section) (ss : List Section) (c : SectionCalls) (cs : List SectionCalls) (rest other : List ℕ) → before ≡ now → AreSections before (s ∷ ss) → AllZip AreCalls (s ∷ ss) (c ∷ cs) → IsNextPart rest
    → flat_map section_text (s ∷ ss) ++ rest ≡ other → GoesOnAt now other
goes_on_with before now s ss c cs rest other same are calls next e = record {
  section = s;
  calls = c;
  more = flat_map section_text ss ++ rest;
  is = subst (λ (k : Counts). IsNextSection k s) same are.0;
  calls_are = calls.0;
  read = sym e ∙ append_assoc (section_text s) (flat_map section_text ss) rest;
  next = sections_next ss rest next;
}

pub same_after : (before now : Counts) (s r : Section) → before ≡ now → section_lines s ≡ section_lines r → counts_after before s ≡ counts_after now r
same_after before now s r same is =
    λ i. counts_of (tallied (tally_before (same i)) (is i)) ((same i).lines + length (is i))

sections_meet : (before now : Counts) (ss rs : List Section) (cs ds : List SectionCalls) (rest other : List ℕ) → before ≡ now → AreSections before ss → AreSections now rs → AllZip AreCalls ss cs → AllZip AreCalls rs ds
    → IsNextPart rest → IsNextPart other → flat_map section_text ss ++ rest ≡ flat_map section_text rs ++ other → Meet (counts_behind before ss) rest (counts_behind now rs) other
sections_meet before now [] [] cs ds rest other same are fine calls others next then e = inr (inr (same, e))
sections_meet before now (s ∷ ss) [] [] ds rest other same are fine calls others next then e = absurd calls
sections_meet before now (s ∷ ss) [] (c ∷ cs) ds rest other same are fine calls others next then e = inl (goes_on_with before now s ss c cs rest other same are calls next e)
sections_meet before now [] (r ∷ rs) cs [] rest other same are fine calls others next then e = absurd others
sections_meet before now [] (r ∷ rs) cs (d ∷ ds) rest other same are fine calls others next then e = inr (inl (goes_on_with now before r rs d ds other rest (sym same) fine others then (sym e)))
sections_meet before now (s ∷ ss) (r ∷ rs) [] ds rest other same are fine calls others next then e = absurd calls
sections_meet before now (s ∷ ss) (r ∷ rs) (c ∷ cs) [] rest other same are fine calls others next then e = absurd others
sections_meet before now (s ∷ ss) (r ∷ rs) (c ∷ cs) (d ∷ ds) rest other same are fine calls others next then e =
    let left = section_part before s (flat_map section_text (s ∷ ss) ++ rest) (flat_map section_text ss ++ rest) are.0 (append_assoc (section_text s) (flat_map section_text ss) rest) (sections_next ss rest next) in
    let right = section_part now r (flat_map section_text (s ∷ ss) ++ rest) (flat_map section_text rs ++ other) fine.0 (e ∙ append_assoc (section_text r) (flat_map section_text rs) other) (sections_next rs other then) in
    let once = part_same Next (section_lines s) (section_lines r) (flat_map section_text (s ∷ ss) ++ rest) (flat_map section_text ss ++ rest) (flat_map section_text rs ++ other) left right in
    sections_meet (counts_after before s) (counts_after now r) ss rs cs ds rest other (same_after before now s r same once.0) are.1 fine.1 calls.1 others.1 next then once.1

-- ---- scripts side by side

pub header_read : (text : List ℕ) (h : Header) (ss : List Section) (cs : List SectionCalls) (rest : List ℕ) → IsJudgedTo text h ss cs rest → AreLinesOf Start (header_lines h) text (flat_map section_text ss ++ rest)
header_read text h ss cs rest j =
    header_part h text (flat_map section_text ss ++ rest) j.script.header_is (j.read ∙ append_assoc (header_text h) (flat_map section_text ss) rest) (sections_next ss rest j.next)

same_counts : (h g : Header) → header_lines h ≡ header_lines g → header_counts h ≡ header_counts g
same_counts h g is = λ i. counts_of (tallied no_tally (is i)) (length (is i))

pub scripts_meet : (text : List ℕ) (h g : Header) (ss rs : List Section) (cs ds : List SectionCalls) (rest other : List ℕ) → IsJudgedTo text h ss cs rest → IsJudgedTo text g rs ds other
    → Meet (script_counts h ss) rest (script_counts g rs) other
scripts_meet text h g ss rs cs ds rest other a b =
    let once = part_same Start (header_lines h) (header_lines g) text (flat_map section_text ss ++ rest) (flat_map section_text rs ++ other) (header_read text h ss cs rest a) (header_read text g rs ds other b) in
    sections_meet (header_counts h) (header_counts g) ss rs cs ds rest other (same_counts h g once.0) a.script.sections_are b.script.sections_are a.calls_are b.calls_are a.next b.next once.1
