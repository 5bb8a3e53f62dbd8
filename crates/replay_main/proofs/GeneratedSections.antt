-- The sections of a round of the generated script: they are spelled as the round is, and what they are made of is in order and in range.
use Rattle.std.proofs.Common.{◌≡◌, ℕ, zero, suc, ◌+◌, ◌-◌, ◌*◌, ◌%◌, ◌<◌, ◌≤◌, List, [], ◌∷◌, ◌++◌, length, length-append, map, refl, sym, ap, subst, ◌∙◌, append_assoc, append-nil, arith, true, Some, None}
use Rattle.std.specs.Prelude.{◌==◌, if◌then◌else◌, codes}
use Rattle.std.specs.List.{AllByRecursion, AllZip, flat_map, range_with_len}
use Rattle.std.proofs.lemmas.Nat.{mod_below}
use Rattle.acct_base.specs.declared.packet.Dir.TheVariants.{Ingress, Egress}
use Rattle.acct_base.specs.declared.packet.Family.TheVariants.{V4}
use Rattle.acct_base.specs.Receipts.{Call}
use Rattle.acct_base.specs.Receipts.Call.{Hook}
use Rattle.acct_base.specs.Ranges.{IsCallInRange}
use Rattle.desk_core.specs.declared.command.Command.{Command}
use Rattle.desk_core.specs.declared.command.Command.TheVariants as command
use Rattle.script_text.specs.declared.line.Line.{Line}
use Rattle.script_text.specs.declared.line.Line.TheVariants as lines
use Rattle.script_text.specs.declared.place.Place.{Place}
use Rattle.script_text.specs.declared.place.Place.TheVariants as places
use Rattle.script_text.specs.declared.limits.Tally.{Tally}
use Rattle.script_text.specs.declared.section.Section.{Section}
use Rattle.script_text.specs.Lines.{LaneLine, IsLine, spelled}
use Rattle.script_text.specs.Order.{is_open}
use Rattle.script_text.specs.Parts.{lines_text, lane_lines, section_lines, section_text, line_numbers, IsSection}
use Rattle.script_text.specs.Limits.{added, tallied}
use Rattle.captures.specs.Calls.{SectionCalls, IsSectionInRange}
use Rattle.captures.specs.Sections.{AreCalls, IsCallOf}
use Rattle.outside.specs.Generated.{for_each, firewall_line, chain_line, packet_line, lane_text, desk_section, lanes_section}
use Rattle.replay_main.proofs.GeneratedLines.{packet_of, tag_of, firewall_of, chain_of, packet_text, tag_text, packet_fits, tag_fits, firewall_fits, chain_fits, IsShort, packet_short, tag_short, firewall_short, chain_short}
use Rattle.replay_main.proofs.GeneratedLimits.{Grows, grows_then, tallied_then, Follow, follow_order, all_then}

-- ---- the section with the commands

abbrev pub commands_from : ℕ → ℕ → List (ℕ × Command)
commands_from line round = (line, tag_of round) ∷ (line + 1, firewall_of round) ∷ (line + 1 + 1, chain_of round) ∷ (line + 1 + 1 + 1, command.Collect) ∷ []

abbrev pub desk_part : ℕ → ℕ → Section
desk_part line round = record { first = line; capture = []; caps = []; lanes = []; desk = Some (commands_from (line + 1 + 1) round) }

four_texts : (a b c d : List ℕ) → a ++ (b ++ (c ++ d)) ≡ ((a ++ b) ++ c) ++ d
four_texts a b c d = sym (append_assoc (a ++ b) c d ∙ append_assoc a b (c ++ d))

pub desk_text_is : (line round : ℕ) → section_text (desk_part line round) ≡ desk_section round
desk_text_is line round =
    ap (λ (t : List ℕ). codes "section\ndesk\n" ++ t) (four_texts (spelled (lines.Command (tag_of round))) (firewall_line round) (chain_line round) (codes "collect\n"))
    ∙ (λ i. codes "section\n" ++ codes "desk\n" ++ tag_text round i ++ firewall_line round ++ chain_line round ++ codes "collect\n")

pub desk_is : (line round : ℕ) → IsSection (desk_part line round)
desk_is line round =
    record {
      fits = ((tt, tt), ((tt, tt), (tag_fits round, (firewall_fits round, (chain_fits round, ((tt, tt), tt))))));
      order = follow_order places.Next [] (section_lines (desk_part line round))
          (refl, λ names. refl, (refl, λ names. refl, (refl, λ names. refl, (refl, λ names. refl, (refl, λ names. refl, (refl, λ names. refl, tt))))));
      captured = refl;
      numbered = refl;
    }

pub desk_short : (line round : ℕ) → AllByRecursion IsShort (section_lines (desk_part line round))
desk_short line round = (
  record { bytes = omega arith; uids = omega arith },
  (
    record { bytes = omega arith; uids = omega arith },
    (tag_short round, (firewall_short round, (chain_short round, (record { bytes = omega arith; uids = omega arith }, tt)))),
  ),
)

pub desk_grows : (t : Tally) (line round : ℕ) → Grows t (tallied t (section_lines (desk_part line round))) 1 0 0 4 1
desk_grows t line round = record {
  privs = refl;
  ifs = refl;
  capture = refl;
  sections_are = omega arith;
  lanes_are = omega arith;
  hooks_are = omega arith;
  desk_lines_are = omega arith;
  collections_are = omega arith;
}

abbrev pub desk_calls : ℕ → ℕ → SectionCalls
desk_calls line round = record { lanes = []; desk = commands_from (line + 1 + 1) round }

pub desk_calls_are : (line round : ℕ) → AreCalls (desk_part line round) (desk_calls line round)
desk_calls_are line round = record { packets = []; packets_are = refl; lanes = tt; desk = refl }

pub desk_in_range : (line round : ℕ) → IsSectionInRange (desk_calls line round)
desk_in_range line round =
    let uid = mod_below round 8 (omega arith) in
    let tag = mod_below round 4 (omega arith) in
    record { lanes = tt; desk = ((omega arith, omega (arith, uid), omega (arith, tag)), (omega (arith, uid), (tt, (tt, tt)))) }

-- ---- the section with the packets

unfoldable pub hooks_from : ℕ → ℕ → ℕ → ℕ → List (ℕ × LaneLine)
hooks_from line lane packet zero = []
hooks_from line lane packet (suc n) = (line, packet_of lane packet) ∷ hooks_from (line + 1) lane (packet + 1) n

unfoldable pub lanes_from : ℕ → ℕ → ℕ → List (List (ℕ × LaneLine))
lanes_from line lane zero = []
lanes_from line lane (suc n) = hooks_from (line + 1) lane 0 64 ∷ lanes_from (line + 65) (lane + 1) n

abbrev pub lanes_part : ℕ → Section
lanes_part line = record { first = line; capture = []; caps = []; lanes = lanes_from (line + 1) 0 4; desk = None }

abbrev hook_lines : List (ℕ × LaneLine) → List Line
hook_lines hooks = map (λ (h : ℕ × LaneLine). lines.Hook h.1) hooks

pub lanes_lines : (line : ℕ) → section_lines (lanes_part line) ≡ lines.Section ∷ flat_map lane_lines (lanes_from (line + 1) 0 4)
lanes_lines line = ap (λ (ls : List Line). lines.Section ∷ ls) (append-nil (flat_map lane_lines (lanes_from (line + 1) 0 4)))

-- how they are spelled

text_then : (ls ms : List Line) → lines_text (ls ++ ms) ≡ lines_text ls ++ lines_text ms
text_then [] ms = refl
text_then (l ∷ ls) ms = ap (λ (t : List ℕ). spelled l ++ t) (text_then ls ms) ∙ sym (append_assoc (spelled l) (lines_text ls) (lines_text ms))

hooks_text : (line lane packet n : ℕ) → lines_text (hook_lines (hooks_from line lane packet n)) ≡ flat_map (packet_line lane) (range_with_len packet n)
unfolding hooks_from
hooks_text line lane packet zero = refl
hooks_text line lane packet (suc n) = λ i. packet_text lane packet i ++ hooks_text (line + 1) lane (packet + 1) n i

for_each-is : (first end n : ℕ) (text : ℕ → List ℕ) → end - first ≡ n → for_each first end text ≡ flat_map text (range_with_len first n)
unfolding for_each
for_each-is first end n text e = ap (λ (k : ℕ). flat_map text (range_with_len first k)) e

lane_text_is : (line lane : ℕ) → lines_text (lane_lines (hooks_from line lane 0 64)) ≡ lane_text lane
lane_text_is line lane = ap (λ (t : List ℕ). codes "lane\n" ++ t) (hooks_text line lane 0 64 ∙ sym (for_each-is 0 64 64 (packet_line lane) refl))

lanes_text : (line lane n : ℕ) → lines_text (flat_map lane_lines (lanes_from line lane n)) ≡ flat_map lane_text (range_with_len lane n)
unfolding lanes_from
lanes_text line lane zero = refl
lanes_text line lane (suc n) =
    text_then (lane_lines (hooks_from (line + 1) lane 0 64)) (flat_map lane_lines (lanes_from (line + 65) (lane + 1) n))
    ∙ (λ i. lane_text_is (line + 1) lane i ++ lanes_text (line + 65) (lane + 1) n i)

pub lanes_text_is : (line : ℕ) → section_text (lanes_part line) ≡ lanes_section
lanes_text_is line =
    ap lines_text (lanes_lines line) ∙ ap (λ (t : List ℕ). codes "section\n" ++ t) (lanes_text (line + 1) 0 4 ∙ sym (for_each-is 0 4 4 lane_text refl))

-- what they are

hooks_all : (P : Line → Type 0) (line lane packet n : ℕ) → ((p : ℕ) → P (lines.Hook (packet_of lane p))) → AllByRecursion P (hook_lines (hooks_from line lane packet n))
unfolding hooks_from
hooks_all P line lane packet zero each = tt
hooks_all P line lane packet (suc n) each = (each packet, hooks_all P (line + 1) lane (packet + 1) n each)

lanes_all : (P : Line → Type 0) (line lane n : ℕ) → lane + n ≤ 4 → P lines.Lane → ((k p : ℕ) → k < 4 → P (lines.Hook (packet_of k p))) → AllByRecursion P (flat_map lane_lines (lanes_from line lane n))
unfolding lanes_from
lanes_all P line lane zero le begins each = tt
lanes_all P line lane (suc n) le begins each =
    all_then P (lane_lines (hooks_from (line + 1) lane 0 64)) (flat_map lane_lines (lanes_from (line + 65) (lane + 1) n))
    (begins, hooks_all P (line + 1) lane 0 64 (λ p. each lane p (omega (arith, le))))
    (lanes_all P (line + 65) (lane + 1) n (omega (arith, le)) begins each)

hooks_follow : (line lane packet n : ℕ) (rest : List Line) → Follow places.Lane rest → Follow places.Lane (hook_lines (hooks_from line lane packet n) ++ rest)
unfolding hooks_from
hooks_follow line lane packet zero rest h = h
hooks_follow line lane packet (suc n) rest h = (refl, λ names. refl, hooks_follow (line + 1) lane (packet + 1) n rest h)

lanes_follow : (p : Place) (line lane n : ℕ) → is_open p ≡ true → Follow p (flat_map lane_lines (lanes_from line lane n))
unfolding lanes_from
lanes_follow p line lane zero open_is = tt
lanes_follow p line lane (suc n) open_is =
    (open_is, λ names. refl, hooks_follow (line + 1) lane 0 64 (flat_map lane_lines (lanes_from (line + 65) (lane + 1) n)) (lanes_follow places.Lane (line + 65) (lane + 1) n refl))

abbrev numbers_of : List (ℕ × LaneLine) → List ℕ
numbers_of lane = map (λ (h : ℕ × LaneLine). h.0) lane

hooks_numbers : (line lane packet n : ℕ) (rest : List Line) → line_numbers line (hook_lines (hooks_from line lane packet n) ++ rest) ≡ numbers_of (hooks_from line lane packet n) ++ line_numbers (line + n) rest
unfolding hooks_from
hooks_numbers line lane packet zero rest = let same : line ≡ line + 0 = omega arith in ap (λ (k : ℕ). line_numbers k rest) same
hooks_numbers line lane packet (suc n) rest =
    let same : line + 1 + n ≡ line + suc n = omega arith in
    ap (λ (t : List ℕ). line ∷ t) (hooks_numbers (line + 1) lane (packet + 1) n rest ∙ ap (λ (k : ℕ). numbers_of (hooks_from (line + 1) lane (packet + 1) n) ++ line_numbers k rest) same)

lanes_numbers : (line lane n : ℕ) (rest : List Line) → line_numbers line (flat_map lane_lines (lanes_from line lane n) ++ rest) ≡ flat_map numbers_of (lanes_from line lane n) ++ line_numbers (line + 65 * n) rest
unfolding lanes_from
lanes_numbers line lane zero rest = let same : line ≡ line + 65 * 0 = omega arith in ap (λ (k : ℕ). line_numbers k rest) same
lanes_numbers line lane (suc n) rest =
    let hooks = hooks_from (line + 1) lane 0 64 in
    let others = lanes_from (line + 65) (lane + 1) n in
    let behind = flat_map lane_lines others ++ rest in
    let at : line + 1 + 64 ≡ line + 65 = omega arith in
    let end : line + 65 + 65 * n ≡ line + 65 * suc n = omega arith in
    ap (line_numbers line) (append_assoc (lane_lines hooks) (flat_map lane_lines others) rest)
    ∙ hooks_numbers (line + 1) lane 0 64 behind
    ∙ ap (λ (k : ℕ). numbers_of hooks ++ line_numbers k behind) at
    ∙ ap (λ (t : List ℕ). numbers_of hooks ++ t) (lanes_numbers (line + 65) (lane + 1) n rest)
    ∙ ap (λ (k : ℕ). numbers_of hooks ++ (flat_map numbers_of others ++ line_numbers k rest)) end
    ∙ sym (append_assoc (numbers_of hooks) (flat_map numbers_of others) (line_numbers (line + 65 * suc n) rest))

pub lanes_is : (line : ℕ) → IsSection (lanes_part line)
lanes_is line =
    let all = lanes_lines line in
    record {
      fits = subst (AllByRecursion IsLine) (sym all) ((tt, tt), lanes_all IsLine (line + 1) 0 4 (omega arith) (tt, tt) (λ k p lt. packet_fits k p lt));
      order = follow_order places.Next [] (section_lines (lanes_part line)) (subst (Follow places.Next) (sym all) (refl, λ names. refl, lanes_follow places.Section (line + 1) 0 4 refl));
      captured = refl;
      numbered = sym (lanes_numbers (line + 1) 0 4 []);
    }

pub lanes_short : (line : ℕ) → AllByRecursion IsShort (section_lines (lanes_part line))
lanes_short line =
    subst (AllByRecursion IsShort) (sym (lanes_lines line))
    (record { bytes = omega arith; uids = omega arith }, lanes_all IsShort (line + 1) 0 4 (omega arith) (record { bytes = omega arith; uids = omega arith }) (λ k p lt. packet_short k p lt))

hooks_long : (line lane packet n : ℕ) → length (hook_lines (hooks_from line lane packet n)) ≡ n
unfolding hooks_from
hooks_long line lane packet zero = refl
hooks_long line lane packet (suc n) = ap suc (hooks_long (line + 1) lane (packet + 1) n)

lanes_all_long : (line lane n : ℕ) → length (flat_map lane_lines (lanes_from line lane n)) ≡ 65 * n
unfolding lanes_from
lanes_all_long line lane zero = refl
lanes_all_long line lane (suc n) =
    let first : length (lane_lines (hooks_from (line + 1) lane 0 64)) ≡ 65 = ap suc (hooks_long (line + 1) lane 0 64) in
    omega (arith, length-append (lane_lines (hooks_from (line + 1) lane 0 64)) (flat_map lane_lines (lanes_from (line + 65) (lane + 1) n)), first, lanes_all_long (line + 65) (lane + 1) n)

pub lanes_long : (line : ℕ) → length (section_lines (lanes_part line)) ≡ 261
lanes_long line = ap length (lanes_lines line) ∙ ap suc (lanes_all_long (line + 1) 0 4)

-- what they count for

hooks_grow : (t : Tally) (line lane packet n : ℕ) → Grows t (tallied t (hook_lines (hooks_from line lane packet n))) 0 0 n 0 0
unfolding hooks_from
hooks_grow t line lane packet zero = record {
  privs = refl;
  ifs = refl;
  capture = refl;
  sections_are = omega arith;
  lanes_are = omega arith;
  hooks_are = omega arith;
  desk_lines_are = omega arith;
  collections_are = omega arith;
}
hooks_grow t line lane packet (suc n) =
    let first = added t (lines.Hook (packet_of lane packet)) in
    let g = hooks_grow first (line + 1) lane (packet + 1) n in
    let hooks : first.hooks ≡ t.hooks + 1 = refl in
    record {
      privs = g.privs;
      ifs = g.ifs;
      capture = g.capture;
      sections_are = g.sections_are;
      lanes_are = g.lanes_are;
      hooks_are = omega (arith, g.hooks_are, hooks);
      desk_lines_are = g.desk_lines_are;
      collections_are = g.collections_are;
    }

word_grows : (t : Tally) → Grows t (added t lines.Lane) 0 1 0 0 0
word_grows t = record {
  privs = refl;
  ifs = refl;
  capture = refl;
  sections_are = omega arith;
  lanes_are = refl;
  hooks_are = omega arith;
  desk_lines_are = omega arith;
  collections_are = omega arith;
}

section_grows : (t : Tally) → Grows t (added t lines.Section) 1 0 0 0 0
section_grows t = record {
  privs = refl;
  ifs = refl;
  capture = refl;
  sections_are = refl;
  lanes_are = omega arith;
  hooks_are = omega arith;
  desk_lines_are = omega arith;
  collections_are = omega arith;
}

lanes_all_grow : (t : Tally) (line lane n : ℕ) → Grows t (tallied t (flat_map lane_lines (lanes_from line lane n))) 0 n (64 * n) 0 0
unfolding lanes_from
lanes_all_grow t line lane zero = record {
  privs = refl;
  ifs = refl;
  capture = refl;
  sections_are = omega arith;
  lanes_are = omega arith;
  hooks_are = omega arith;
  desk_lines_are = omega arith;
  collections_are = omega arith;
}
lanes_all_grow t line lane (suc n) =
    let hooks = hooks_from (line + 1) lane 0 64 in
    let others = flat_map lane_lines (lanes_from (line + 65) (lane + 1) n) in
    let begun = added t lines.Lane in
    let first = tallied begun (hook_lines hooks) in
    let a = word_grows t in
    let b = hooks_grow begun (line + 1) lane 0 64 in
    let c = lanes_all_grow first (line + 65) (lane + 1) n in
    let all : Grows t (tallied first others) (0 + 0 + 0) (1 + 0 + n) (0 + 64 + 64 * n) (0 + 0 + 0) (0 + 0 + 0) =
    grows_then t first (tallied first others) _ _ _ _ _ _ _ _ _ _ (grows_then t begun first _ _ _ _ _ _ _ _ _ _ a b) c in
    let hooks_are : 0 + 64 + 64 * n ≡ 64 * suc n = omega arith in
    let lanes_are : 1 + 0 + n ≡ suc n = omega arith in
    subst (λ (x : Tally × (ℕ × ℕ)). Grows t x.0 0 x.1.0 x.1.1 0 0) (λ i. (sym (tallied_then t (lane_lines hooks) others) i, (lanes_are i, hooks_are i))) all

pub lanes_grow : (t : Tally) (line : ℕ) → Grows t (tallied t (section_lines (lanes_part line))) 1 4 256 0 0
lanes_grow t line =
    let begun = added t lines.Section in
    let ls = flat_map lane_lines (lanes_from (line + 1) 0 4) in
    subst (λ (u : Tally). Grows t u 1 4 256 0 0) (ap (tallied t) (sym (lanes_lines line)))
    (grows_then t begun (tallied begun ls) _ _ _ _ _ _ _ _ _ _ (section_grows t) (lanes_all_grow begun (line + 1) 0 4))

-- what they ask for

abbrev pub call_of : ℕ → ℕ → Call
call_of lane packet = Hook (record {
  dir = if packet % 2 == 0 then Ingress else Egress;
  sock_uid = 10000 + packet % 8;
  cookie = 1 + packet % 16;
  iface = 1 + lane;
  family = V4;
  len = 100 + 500 * lane;
  head = [];
})

unfoldable pub calls_from : ℕ → ℕ → ℕ → ℕ → List (ℕ × Call)
calls_from line lane packet zero = []
calls_from line lane packet (suc n) = (line, call_of lane packet) ∷ calls_from (line + 1) lane (packet + 1) n

unfoldable pub lanes_calls_from : ℕ → ℕ → ℕ → List (List (ℕ × Call))
lanes_calls_from line lane zero = []
lanes_calls_from line lane (suc n) = calls_from (line + 1) lane 0 64 ∷ lanes_calls_from (line + 65) (lane + 1) n

hooks_calls : (line lane packet n : ℕ) → AllZip (IsCallOf []) (hooks_from line lane packet n) (calls_from line lane packet n)
unfolding hooks_from calls_from
hooks_calls line lane packet zero = tt
hooks_calls line lane packet (suc n) = (refl, hooks_calls (line + 1) lane (packet + 1) n)

lanes_calls_all : (line lane n : ℕ) → AllZip (AllZip (IsCallOf [])) (lanes_from line lane n) (lanes_calls_from line lane n)
unfolding lanes_from lanes_calls_from
lanes_calls_all line lane zero = tt
lanes_calls_all line lane (suc n) = (hooks_calls (line + 1) lane 0 64, lanes_calls_all (line + 65) (lane + 1) n)

abbrev pub lanes_calls : ℕ → SectionCalls
lanes_calls line = record { lanes = lanes_calls_from (line + 1) 0 4; desk = [] }

pub lanes_calls_are : (line : ℕ) → AreCalls (lanes_part line) (lanes_calls line)
lanes_calls_are line = record { packets = []; packets_are = refl; lanes = lanes_calls_all (line + 1) 0 4; desk = refl }

abbrev AreInRange : List (ℕ × Call) → Type 0
AreInRange calls = AllByRecursion (λ (c : ℕ × Call). IsCallInRange c.1) calls

call_in_range : (lane packet : ℕ) → lane < 4 → IsCallInRange (call_of lane packet)
call_in_range lane packet lt =
    let uid = mod_below packet 8 (omega arith) in
    record { uid = omega (arith, uid); some_iface = omega arith; iface = omega (arith, lt); some_len = omega arith; len = omega (arith, lt) }

hooks_in_range : (line lane packet n : ℕ) → lane < 4 → AreInRange (calls_from line lane packet n)
unfolding calls_from
hooks_in_range line lane packet zero lt = tt
hooks_in_range line lane packet (suc n) lt = (call_in_range lane packet lt, hooks_in_range (line + 1) lane (packet + 1) n lt)

lanes_all_in_range : (line lane n : ℕ) → lane + n ≤ 4 → AllByRecursion AreInRange (lanes_calls_from line lane n)
unfolding lanes_calls_from
lanes_all_in_range line lane zero le = tt
lanes_all_in_range line lane (suc n) le = (hooks_in_range (line + 1) lane 0 64 (omega (arith, le)), lanes_all_in_range (line + 65) (lane + 1) n (omega (arith, le)))

pub lanes_in_range : (line : ℕ) → IsSectionInRange (lanes_calls line)
lanes_in_range line = record { lanes = lanes_all_in_range (line + 1) 0 4 (omega arith); desk = tt }
