-- The calls of lines that have their packets, and the first line that lacks one.
use Rattle.std.proofs.Common.{◌≡◌, ℕ, zero, suc, ◌+◌, Bool, true, false, cond, List, [], ◌∷◌, ◌++◌, length, map, drop, Option, Some, None, refl, sym, ap, ◌∙◌, subst, add-one, arith, option_map}
use Rattle.std.specs.Prelude.{is_none, is_some, find, option_and_then}
use Rattle.std.specs.List.{slice_get, AllZip, AllByRecursion, cons_option}
use Rattle.acct_base.specs.Receipts.{Call}
use Rattle.script_text.specs.Lines.{LaneLine}
use Rattle.captures.specs.Pcap.{Held}
use Rattle.captures.specs.Sections.{call_by, line_call, calls_in, lacks_packet, HavePackets, IsCallOf, first_lacking, lacking, all_lines}

-- a value that is there
there : {X : Type 0} (o : Option X) → is_none o ≡ false → (x : X) × (o ≡ Some x)
there None e = cc
there (Some x) e = (x, refl)

-- a line that has its packet makes a call
makes : (packets : List (Option Held)) (l : ℕ × LaneLine) → lacks_packet packets l ≡ false → (c : ℕ × Call) × (line_call packets l ≡ Some c)
makes packets l has =
    let call = there (call_by packets l.1) has in
    ((l.0, call.0), ap (option_map (λ (c : Call). (l.0, c))) call.1)

first_call : (packets : List (Option Held)) (l : ℕ × LaneLine) (ls : List (ℕ × LaneLine)) (c : ℕ × Call) → line_call packets l ≡ Some c →
    calls_in packets (l ∷ ls) ≡ c ∷ calls_in packets ls
first_call packets l ls c e = ap (λ (o : Option (ℕ × Call)). cons_option o (calls_in packets ls)) e

-- there is a call for each line
pub calls_in-length : (packets : List (Option Held)) (lines : List (ℕ × LaneLine)) → HavePackets packets lines →
    length (calls_in packets lines) ≡ length lines
calls_in-length packets [] have = refl
calls_in-length packets (l ∷ ls) have =
    let call = makes packets l have.0 in
    let rest = calls_in-length packets ls have.1 in
    ap length (first_call packets l ls call.0 call.1) ∙ omega (arith, rest)

-- the call at a place is that of the line there
pub calls_in-get : (packets : List (Option Held)) (lines : List (ℕ × LaneLine)) (place : ℕ) → HavePackets packets lines →
    slice_get (calls_in packets lines) place ≡ option_and_then (line_call packets) (slice_get lines place)
calls_in-get packets [] place have = refl
calls_in-get packets (l ∷ ls) zero have =
    let call = makes packets l have.0 in
    ap (λ (cs : List (ℕ × Call)). slice_get cs 0) (first_call packets l ls call.0 call.1) ∙ sym call.1
calls_in-get packets (l ∷ ls) (suc place) have =
    let call = makes packets l have.0 in
    ap (λ (cs : List (ℕ × Call)). slice_get cs (suc place)) (first_call packets l ls call.0 call.1) ∙ calls_in-get packets ls place have.1

-- each line makes its call
calls_in-zip : (packets : List (Option Held)) (lines : List (ℕ × LaneLine)) → HavePackets packets lines →
    AllZip (IsCallOf packets) lines (calls_in packets lines)
calls_in-zip packets [] have = tt
calls_in-zip packets (l ∷ ls) have =
    let call = makes packets l have.0 in
    subst (AllZip (IsCallOf packets) (l ∷ ls)) (sym (first_call packets l ls call.0 call.1)) (call.1, calls_in-zip packets ls have.1)

pub lanes-zip : (packets : List (Option Held)) (lanes : List (List (ℕ × LaneLine))) → AllByRecursion (HavePackets packets) lanes →
    AllZip (AllZip (IsCallOf packets)) lanes (map (calls_in packets) lanes)
lanes-zip packets [] have = tt
lanes-zip packets (lane ∷ lanes) have = (calls_in-zip packets lane have.0, lanes-zip packets lanes have.1)

-- ---- the first line that lacks its packet

-- a number, or else a later one
abbrev pub or_later : Option ℕ → Option ℕ → Option ℕ
or_later None later = later
or_later (Some n) later = Some n

pub first_lacking-cons : (packets : List (Option Held)) (l : ℕ × LaneLine) (ls : List (ℕ × LaneLine)) →
    first_lacking packets (l ∷ ls) ≡ or_later (lacking packets l) (first_lacking packets ls)
first_lacking-cons packets l ls =
    by_test l ls (lacks_packet packets l) (find (lacks_packet packets) ls)
  where
    by_test : (l : ℕ × LaneLine) (ls : List (ℕ × LaneLine)) (b : Bool) (later : Option (ℕ × LaneLine)) →
        option_map (λ (x : ℕ × LaneLine). x.0) (cond b (Some l) later) ≡ or_later (cond b (Some l.0) None) (option_map (λ (x : ℕ × LaneLine). x.0) later)
    by_test l ls true later = refl
    by_test l ls false later = refl

-- from a place on it is the line there, or a later one
pub first_lacking-at : (packets : List (Option Held)) (lines : List (ℕ × LaneLine)) (place : ℕ) →
    first_lacking packets (drop place lines)
    ≡ or_later (option_and_then (lacking packets) (slice_get lines place)) (first_lacking packets (drop (suc place) lines))
first_lacking-at packets [] zero = refl
first_lacking-at packets [] (suc place) = refl
first_lacking-at packets (l ∷ ls) zero = first_lacking-cons packets l ls
first_lacking-at packets (l ∷ ls) (suc place) = first_lacking-at packets ls place

-- behind more lines it is one of those, or a later one
pub first_lacking-append : (packets : List (Option Held)) (xs ys : List (ℕ × LaneLine)) →
    first_lacking packets (xs ++ ys) ≡ or_later (first_lacking packets xs) (first_lacking packets ys)
first_lacking-append packets [] ys = refl
first_lacking-append packets (x ∷ xs) ys =
    first_lacking-cons packets x (xs ++ ys)
    ∙ ap (or_later (lacking packets x)) (first_lacking-append packets xs ys)
    ∙ sym (or_later-assoc (lacking packets x) (first_lacking packets xs) (first_lacking packets ys))
    ∙ ap (λ (o : Option ℕ). or_later o (first_lacking packets ys)) (sym (first_lacking-cons packets x xs))
  where
    or_later-assoc : (a b c : Option ℕ) → or_later (or_later a b) c ≡ or_later a (or_later b c)
    or_later-assoc None b c = refl
    or_later-assoc (Some n) b c = refl

pub first_lacking-lane : (packets : List (Option Held)) (lanes : List (List (ℕ × LaneLine))) (place : ℕ) (found : Option ℕ) →
    found ≡ option_and_then (first_lacking packets) (slice_get lanes place) →
    first_lacking packets (all_lines (drop place lanes)) ≡ or_later found (first_lacking packets (all_lines (drop (suc place) lanes)))
first_lacking-lane packets [] zero found e = ap (λ (o : Option ℕ). or_later o None) (sym e)
first_lacking-lane packets [] (suc place) found e = ap (λ (o : Option ℕ). or_later o None) (sym e)
first_lacking-lane packets (lane ∷ lanes) zero found e =
    first_lacking-append packets lane (all_lines lanes)
    ∙ ap (λ (o : Option ℕ). or_later o (first_lacking packets (all_lines lanes))) (sym e)
first_lacking-lane packets (lane ∷ lanes) (suc place) found e = first_lacking-lane packets lanes place found e

-- nothing was found, and what comes later is the same from the next place on
passed_over : (found here later : Option ℕ) → here ≡ or_later found later → is_some found ≡ false → here ≡ later
passed_over None here later e none = e
passed_over (Some n) here later e none = cc

-- what was found comes first
found_here : (found here later : Option ℕ) → here ≡ or_later found later → is_some found ≡ true → found ≡ here
found_here None here later e some = cc
found_here (Some n) here later e some = sym e

-- a loop over lines: what is first of all is first from this place on
pub line_passed : (packets : List (Option Held)) (lines : List (ℕ × LaneLine)) (place : ℕ) (found : Option ℕ) →
    found ≡ option_and_then (lacking packets) (slice_get lines place) → is_some found ≡ false →
    first_lacking packets lines ≡ first_lacking packets (drop place lines) → first_lacking packets lines ≡ first_lacking packets (drop (place + 1) lines)
line_passed packets lines place found e none so_far =
    so_far ∙ passed_over found (first_lacking packets (drop place lines)) (first_lacking packets (drop (suc place) lines))
    (first_lacking-at packets lines place ∙ ap (λ (o : Option ℕ). or_later o (first_lacking packets (drop (suc place) lines))) (sym e)) none
    ∙ ap (λ (n : ℕ). first_lacking packets (drop n lines)) (sym (add-one place))

pub line_found : (packets : List (Option Held)) (lines : List (ℕ × LaneLine)) (place : ℕ) (found : Option ℕ) →
    found ≡ option_and_then (lacking packets) (slice_get lines place) → is_some found ≡ true →
    first_lacking packets lines ≡ first_lacking packets (drop place lines) → found ≡ first_lacking packets lines
line_found packets lines place found e some so_far =
    found_here found (first_lacking packets (drop place lines)) (first_lacking packets (drop (suc place) lines))
    (first_lacking-at packets lines place ∙ ap (λ (o : Option ℕ). or_later o (first_lacking packets (drop (suc place) lines))) (sym e)) some
    ∙ sym so_far

-- the same over lanes
pub lane_passed : (packets : List (Option Held)) (lanes : List (List (ℕ × LaneLine))) (place : ℕ) (found : Option ℕ) →
    found ≡ option_and_then (first_lacking packets) (slice_get lanes place) → is_some found ≡ false →
    first_lacking packets (all_lines lanes) ≡ first_lacking packets (all_lines (drop place lanes)) →
    first_lacking packets (all_lines lanes) ≡ first_lacking packets (all_lines (drop (place + 1) lanes))
lane_passed packets lanes place found e none so_far =
    so_far ∙ passed_over found (first_lacking packets (all_lines (drop place lanes))) (first_lacking packets (all_lines (drop (suc place) lanes)))
    (first_lacking-lane packets lanes place found e) none
    ∙ ap (λ (n : ℕ). first_lacking packets (all_lines (drop n lanes))) (sym (add-one place))

pub lane_found : (packets : List (Option Held)) (lanes : List (List (ℕ × LaneLine))) (place : ℕ) (found : Option ℕ) →
    found ≡ option_and_then (first_lacking packets) (slice_get lanes place) → is_some found ≡ true →
    first_lacking packets (all_lines lanes) ≡ first_lacking packets (all_lines (drop place lanes)) →
    found ≡ first_lacking packets (all_lines lanes)
lane_found packets lanes place found e some so_far =
    found_here found (first_lacking packets (all_lines (drop place lanes))) (first_lacking packets (all_lines (drop (suc place) lanes)))
    (first_lacking-lane packets lanes place found e) some
    ∙ sym so_far

-- where none lacks its packet, each has it
none_of : (a b : Option ℕ) → or_later a b ≡ None → (a ≡ None) × (b ≡ None)
none_of None b e = (refl, e)
none_of (Some n) b e = cc

has : (packets : List (Option Held)) (l : ℕ × LaneLine) → lacking packets l ≡ None → lacks_packet packets l ≡ false
has packets l e = by_test l.0 (lacks_packet packets l) e
  where
    by_test : (n : ℕ) (b : Bool) → cond b (Some n) None ≡ None → b ≡ false
    by_test n true e = cc
    by_test n false e = refl

have_packets : (packets : List (Option Held)) (lines : List (ℕ × LaneLine)) → first_lacking packets lines ≡ None → HavePackets packets lines
have_packets packets [] e = tt
have_packets packets (l ∷ ls) e =
    let both = none_of (lacking packets l) (first_lacking packets ls) (sym (first_lacking-cons packets l ls) ∙ e) in
    (has packets l both.0, have_packets packets ls both.1)

pub lanes_have_packets : (packets : List (Option Held)) (lanes : List (List (ℕ × LaneLine))) → first_lacking packets (all_lines lanes) ≡ None →
    AllByRecursion (HavePackets packets) lanes
lanes_have_packets packets [] e = tt
lanes_have_packets packets (lane ∷ lanes) e =
    let both = none_of (first_lacking packets lane) (first_lacking packets (all_lines lanes)) (sym (first_lacking-append packets lane (all_lines lanes)) ∙ e) in
    (have_packets packets lane both.0, lanes_have_packets packets lanes both.1)
