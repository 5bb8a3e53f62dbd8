-- A section has one outcome.
use Rattle.std.proofs.Common.{◌≡◌, ◌≢◌, ◌⊎◌, inl, inr, ℕ, ◌+◌, cond, List, [], ◌∷◌, map, Option, Some, None, refl, sym, ap, ◌∙◌, subst, option_map}
use Rattle.std.specs.Prelude.{is_none, unwrap_or}
use Rattle.std.specs.List.{AllZip}
use Rattle.acct_base.specs.Receipts.{Call}
use Rattle.script_text.specs.Lines.{LaneLine}
use Rattle.script_text.specs.declared.section.Section.{Section}
use Rattle.captures.specs.Pcap.{Held, IsBadAt}
use Rattle.captures.specs.Calls.{SectionCalls}
use Rattle.captures.specs.Sections.{AreCalls, ArePacketsOf, CaptureIsBad, NoPacketAt, IsCallOf, call_by, calls_in, lacking, first_lacking, all_lines}
use Rattle.captures.specs.Laws.{OneOutcome}
use Rattle.captures.proofs.Reading.{one_reading}
use Rattle.captures.proofs.Lending.{lanes-zip, lanes_have_packets, first_lacking-cons, first_lacking-append, or_later}

-- ---- packets

same_packets : (caps capture : List ℕ) (one other : List (Option Held)) → ArePacketsOf caps capture one → ArePacketsOf caps capture other → one ≡ other
same_packets [] capture one other a b = a ∙ sym b
same_packets (cap ∷ caps) capture one other a b = one_reading.packets capture one other a b

not_bad : (caps capture : List ℕ) (packets : List (Option Held)) (place : ℕ) → ArePacketsOf caps capture packets → caps ≢ [] → IsBadAt capture place → ⊥
not_bad [] capture packets place are some bad = some refl
not_bad (cap ∷ caps) capture packets place are some bad = one_reading.apart capture packets place are bad

packets_or_bad : (caps capture : List ℕ) → ((packets : List (Option Held)) × ArePacketsOf caps capture packets) ⊎ ((place : ℕ) × (caps ≢ []) × IsBadAt capture place)
packets_or_bad [] capture = inl ([], refl)
packets_or_bad (cap ∷ caps) capture =
    elim (one_reading.reading capture) [
      | inl read ↦ inl read
      | inr bad ↦ inr (bad.0, (λ (e : cap ∷ caps ≡ []). cc), bad.1)
    ]

-- ---- lines

-- a line that makes a call lacks no packet
makes_call : (packets : List (Option Held)) (l : ℕ × LaneLine) (c : ℕ × Call) → IsCallOf packets l c → lacking packets l ≡ None
makes_call packets l c e = by_call l.0 (call_by packets l.1) e
  where
    by_call : (n : ℕ) (o : Option Call) → option_map (λ (call : Call). (n, call)) o ≡ Some c → cond (is_none o) (Some n) None ≡ None
    by_call n None f = cc
    by_call n (Some call) f = refl

lane_lacks_none : (packets : List (Option Held)) (lane : List (ℕ × LaneLine)) (calls : List (ℕ × Call)) → AllZip (IsCallOf packets) lane calls →
    first_lacking packets lane ≡ None
lane_lacks_none packets [] calls zip = refl
lane_lacks_none packets (l ∷ ls) [] zip = absurd zip
lane_lacks_none packets (l ∷ ls) (c ∷ cs) zip =
    first_lacking-cons packets l ls
    ∙ ap (λ (o : Option ℕ). or_later o (first_lacking packets ls)) (makes_call packets l c zip.0)
    ∙ lane_lacks_none packets ls cs zip.1

lanes_lack_none : (packets : List (Option Held)) (lanes : List (List (ℕ × LaneLine))) (calls : List (List (ℕ × Call))) →
    AllZip (AllZip (IsCallOf packets)) lanes calls → first_lacking packets (all_lines lanes) ≡ None
lanes_lack_none packets [] calls zip = refl
lanes_lack_none packets (l ∷ ls) [] zip = absurd zip
lanes_lack_none packets (l ∷ ls) (c ∷ cs) zip =
    first_lacking-append packets l (all_lines ls)
    ∙ ap (λ (o : Option ℕ). or_later o (first_lacking packets (all_lines ls))) (lane_lacks_none packets l c zip.0)
    ∙ lanes_lack_none packets ls cs zip.1

-- there is one call for each line
same_lane : (packets : List (Option Held)) (lane : List (ℕ × LaneLine)) (one other : List (ℕ × Call)) →
    AllZip (IsCallOf packets) lane one → AllZip (IsCallOf packets) lane other → one ≡ other
same_lane packets [] [] [] a b = refl
same_lane packets [] [] (d ∷ ds) a b = absurd b
same_lane packets [] (c ∷ cs) other a b = absurd a
same_lane packets (l ∷ ls) [] other a b = absurd a
same_lane packets (l ∷ ls) (c ∷ cs) [] a b = absurd b
same_lane packets (l ∷ ls) (c ∷ cs) (d ∷ ds) a b =
    let rest = same_lane packets ls cs ds a.1 b.1 in
    let e = sym a.0 ∙ b.0 in
    cc

same_lanes : (packets : List (Option Held)) (lanes : List (List (ℕ × LaneLine))) (one other : List (List (ℕ × Call))) →
    AllZip (AllZip (IsCallOf packets)) lanes one → AllZip (AllZip (IsCallOf packets)) lanes other → one ≡ other
same_lanes packets [] [] [] a b = refl
same_lanes packets [] [] (d ∷ ds) a b = absurd b
same_lanes packets [] (c ∷ cs) other a b = absurd a
same_lanes packets (l ∷ ls) [] other a b = absurd a
same_lanes packets (l ∷ ls) (c ∷ cs) [] a b = absurd b
same_lanes packets (l ∷ ls) (c ∷ cs) (d ∷ ds) a b =
    let rest = same_lanes packets ls cs ds a.1 b.1 in
    let here = same_lane packets l c d a.0 b.0 in
    cc

-- ---- the section

Outcome : Section → Type 0
Outcome s =
    ((calls : SectionCalls) × AreCalls s calls)
    ⊎ (((line : ℕ) × (place : ℕ) × CaptureIsBad s line place) ⊎ ((line : ℕ) × NoPacketAt s line))

with_packets : (s : Section) (packets : List (Option Held)) → ArePacketsOf s.caps s.capture packets →
    (found : Option ℕ) → first_lacking packets (all_lines s.lanes) ≡ found → Outcome s
unfolding Outcome
with_packets s packets are None e = inl (
  record { lanes = map (calls_in packets) s.lanes; desk = unwrap_or s.desk [] },
  record {
    packets = packets;
    packets_are = are;
    lanes = lanes-zip packets s.lanes (lanes_have_packets packets s.lanes e);
    desk = refl;
  },
)
with_packets s packets are (Some line) e = inr (inr (line, record { packets = packets; packets_are = are; first = e }))

outcome : (s : Section) → Outcome s
unfolding Outcome
outcome s =
    elim (packets_or_bad s.caps s.capture) [
      | inl read ↦ with_packets s read.0 read.1 (first_lacking read.0 (all_lines s.lanes)) refl
      | inr bad ↦ inr (inl (s.first + 1, bad.0, record { captured = bad.1; line_is = refl; bad = bad.2 }))
    ]

full : (s : Section) (calls : SectionCalls) (line : ℕ) → AreCalls s calls → NoPacketAt s line → ⊥
full s calls line are missing =
    let none = lanes_lack_none are.packets s.lanes calls.lanes are.lanes in
    let same = same_packets s.caps s.capture are.packets missing.packets are.packets_are missing.packets_are in
    let some = missing.first in
    let e = ap (λ (ps : List (Option Held)). first_lacking ps (all_lines s.lanes)) same in
    let f = sym none ∙ e ∙ some in
    cc

same_calls : (s : Section) (one other : SectionCalls) → AreCalls s one → AreCalls s other → one ≡ other
same_calls s one other a b =
    let same = same_packets s.caps s.capture b.packets a.packets b.packets_are a.packets_are in
    let lanes = same_lanes a.packets s.lanes one.lanes other.lanes a.lanes (subst (λ (ps : List (Option Held)). AllZip (AllZip (IsCallOf ps)) s.lanes other.lanes) same b.lanes) in
    let desk = a.desk ∙ sym b.desk in
    λ i. record { lanes = lanes i; desk = desk i }

missing_once : (s : Section) (one other : ℕ) → NoPacketAt s one → NoPacketAt s other → one ≡ other
missing_once s one other a b =
    let same = same_packets s.caps s.capture a.packets b.packets a.packets_are b.packets_are in
    let e = ap (λ (ps : List (Option Held)). first_lacking ps (all_lines s.lanes)) same in
    let f = sym a.first ∙ e ∙ b.first in
    cc

pub one_outcome : OneOutcome
unfolding Outcome
one_outcome = record {
  outcome = outcome;
  whole = λ s calls line place are bad. not_bad s.caps s.capture are.packets place are.packets_are bad.captured bad.bad;
  full = full;
  apart = λ s line place missing bad lacks. not_bad s.caps s.capture lacks.packets place lacks.packets_are bad.captured bad.bad;
  calls = same_calls;
  bad = λ s line place other there a b. (a.line_is ∙ sym b.line_is, one_reading.place s.capture place there a.bad b.bad);
  missing = missing_once;
}
