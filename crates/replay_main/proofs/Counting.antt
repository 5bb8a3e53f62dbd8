-- What the lines of a section count for, and what its calls are in number.
use Rattle.std.proofs.Common.{◌≡◌, ℕ, suc, ◌+◌, ◌-◌, ◌≤◌, List, [], ◌∷◌, ◌++◌, length, map, take, drop, refl, ap, arith, Option, Some, None, Bool, true, false}
use Rattle.std.specs.Prelude.{nat_lt, if◌then◌else◌, cond, unwrap_or}
use Rattle.std.specs.List.{flat_map, AllZip}
use Rattle.std.proofs.lemmas.List.{length-take-le, length-drop}
use Rattle.acct_base.specs.Receipts.{Call}
use Rattle.desk_core.specs.declared.command.Command.{Command}
use Rattle.desk_core.specs.Commands.{collects}
use Rattle.script_text.specs.declared.limits.Counts.{Counts}
use Rattle.script_text.specs.declared.limits.Tally.{Tally}
use Rattle.script_text.specs.declared.line.Line.{Line}
use Rattle.script_text.specs.declared.line.Line.TheVariants as lines
use Rattle.script_text.specs.declared.fault.Which.{Which}
use Rattle.script_text.specs.declared.fault.Which.TheVariants as which
use Rattle.script_text.specs.declared.section.Section.{Section}
use Rattle.script_text.specs.Lines.{LaneLine}
use Rattle.script_text.specs.Parts.{cap_lines, lane_lines, desk_lines, section_lines, sum_of}
use Rattle.script_text.specs.Limits.{added, tallied, passed, KeepLimits, tally_before, counts_after}
use Rattle.script_text.specs.Script.{IsNextSection}
use Rattle.captures.specs.Calls.{SectionCalls}
use Rattle.captures.specs.Pcap.{Held}
use Rattle.captures.specs.Sections.{AreCalls, IsCallOf}
use Rattle.acct_plain.specs.Walks.{calls_made, collecting}

-- how much lines weigh
weight : (Line → ℕ) → List Line → ℕ
weight w [] = 0
weight w (l ∷ ls) = w l + weight w ls

weight-append : (w : Line → ℕ) (xs ys : List Line) → weight w (xs ++ ys) ≡ weight w xs + weight w ys
unfolding weight
weight-append w [] ys = omega arith
weight-append w (x ∷ xs) ys = omega (arith, weight-append w xs ys)

module _ (m : Tally → ℕ) (w : Line → ℕ) (step : (t : Tally) (l : Line) → m (added t l) ≡ m t + w l) where
  tallied_weight : (t : Tally) (ls : List Line) → m (tallied t ls) ≡ m t + weight w ls
  unfolding weight
  tallied_weight t [] = omega arith
  tallied_weight t (l ∷ ls) = omega (arith, tallied_weight (added t l) ls, step t l)

-- a hook line, a command that may end a phase, the bytes of a capture line
hook : Line → ℕ
hook (lines.Hook h) = 1
hook l = 0

one_if : Bool → ℕ
one_if b = if b then 1 else 0

ending : Line → ℕ
ending (lines.Command c) = one_if (collects c)
ending l = 0

captured : Line → ℕ
captured (lines.Cap bytes) = length bytes
captured l = 0

hooks_step : (t : Tally) (l : Line) → (added t l).hooks ≡ t.hooks + hook l
unfolding hook
hooks_step t lines.Version = omega arith
hooks_step t (lines.Map name n) = omega arith
hooks_step t (lines.Priv app) = omega arith
hooks_step t (lines.If iface name) = omega arith
hooks_step t lines.Section = omega arith
hooks_step t (lines.Cap bytes) = omega arith
hooks_step t lines.Lane = omega arith
hooks_step t (lines.Hook h) = omega arith
hooks_step t lines.Desk = omega arith
hooks_step t (lines.Command c) = omega arith

ending_step : (t : Tally) (l : Line) → (added t l).collections ≡ t.collections + ending l
unfolding ending one_if
ending_step t lines.Version = omega arith
ending_step t (lines.Map name n) = omega arith
ending_step t (lines.Priv app) = omega arith
ending_step t (lines.If iface name) = omega arith
ending_step t lines.Section = omega arith
ending_step t (lines.Cap bytes) = omega arith
ending_step t lines.Lane = omega arith
ending_step t (lines.Hook h) = omega arith
ending_step t lines.Desk = omega arith
ending_step t (lines.Command c) = refl

capture_step : (t : Tally) (l : Line) → (added t l).capture ≡ t.capture + captured l
unfolding captured
capture_step t lines.Version = omega arith
capture_step t (lines.Map name n) = omega arith
capture_step t (lines.Priv app) = omega arith
capture_step t (lines.If iface name) = omega arith
capture_step t lines.Section = omega arith
capture_step t (lines.Cap bytes) = refl
capture_step t lines.Lane = omega arith
capture_step t (lines.Hook h) = omega arith
capture_step t lines.Desk = omega arith
capture_step t (lines.Command c) = omega arith

-- the lines of a section, kind by kind
lines_in : {A : Type 0} → List (List A) → ℕ
lines_in [] = 0
lines_in (x ∷ xs) = length x + lines_in xs

caps_hooks : (caps bytes : List ℕ) → weight hook (cap_lines caps bytes) ≡ 0
unfolding weight hook
caps_hooks [] bytes = refl
caps_hooks (n ∷ ns) bytes = omega (arith, caps_hooks ns (drop n bytes))

caps_ending : (caps bytes : List ℕ) → weight ending (cap_lines caps bytes) ≡ 0
unfolding weight ending
caps_ending [] bytes = refl
caps_ending (n ∷ ns) bytes = omega (arith, caps_ending ns (drop n bytes))

lane_hooks : (hooks : List (ℕ × LaneLine)) → weight hook (map (λ (h : ℕ × LaneLine). lines.Hook h.1) hooks) ≡ length hooks
unfolding weight hook
lane_hooks [] = refl
lane_hooks (h ∷ hs) = omega (arith, lane_hooks hs)

lane_ending : (hooks : List (ℕ × LaneLine)) → weight ending (map (λ (h : ℕ × LaneLine). lines.Hook h.1) hooks) ≡ 0
unfolding weight ending
lane_ending [] = refl
lane_ending (h ∷ hs) = omega (arith, lane_ending hs)

lanes_hooks : (ls : List (List (ℕ × LaneLine))) → weight hook (flat_map lane_lines ls) ≡ lines_in ls
unfolding weight hook lines_in
lanes_hooks [] = refl
lanes_hooks (l ∷ ls) = omega (arith, weight-append hook (lane_lines l) (flat_map lane_lines ls), lane_hooks l, lanes_hooks ls)

lanes_ending : (ls : List (List (ℕ × LaneLine))) → weight ending (flat_map lane_lines ls) ≡ 0
unfolding weight ending
lanes_ending [] = refl
lanes_ending (l ∷ ls) = omega (arith, weight-append ending (lane_lines l) (flat_map lane_lines ls), lane_ending l, lanes_ending ls)

commands_hooks : (cs : List (ℕ × Command)) → weight hook (map (λ (c : ℕ × Command). lines.Command c.1) cs) ≡ 0
unfolding weight hook
commands_hooks [] = refl
commands_hooks (c ∷ cs) = omega (arith, commands_hooks cs)

desk_hooks : (desk : Option (List (ℕ × Command))) → weight hook (desk_lines desk) ≡ 0
unfolding weight hook
desk_hooks None = refl
desk_hooks (Some cs) = omega (arith, commands_hooks cs)

filtered : (b : Bool) (c : ℕ × Command) (cs : List (ℕ × Command)) (n : ℕ) → n ≡ length cs → one_if b + n ≡ length (cond b (c ∷ cs) cs)
unfolding one_if
filtered true c cs n e = omega (arith, e)
filtered false c cs n e = omega (arith, e)

commands_ending : (cs : List (ℕ × Command)) → weight ending (map (λ (c : ℕ × Command). lines.Command c.1) cs) ≡ length (collecting cs)
unfolding weight ending
commands_ending [] = refl
commands_ending (c ∷ cs) = filtered (collects c.1) c (collecting cs) _ (commands_ending cs)

desk_ending : (desk : Option (List (ℕ × Command))) → weight ending (desk_lines desk) ≡ length (collecting (unwrap_or desk []))
unfolding weight ending
desk_ending None = refl
desk_ending (Some cs) = omega (arith, commands_ending cs)

-- as many calls as lines
lane_long : (packets : List (Option Held)) (ls : List (ℕ × LaneLine)) (cs : List (ℕ × Call)) → AllZip (IsCallOf packets) ls cs → length cs ≡ length ls
lane_long packets [] [] h = refl
lane_long packets [] (c ∷ cs) h = absurd h
lane_long packets (l ∷ ls) [] h = absurd h
lane_long packets (l ∷ ls) (c ∷ cs) h = ap suc (lane_long packets ls cs h.1)

lanes_long : (packets : List (Option Held)) (ls : List (List (ℕ × LaneLine))) (cs : List (List (ℕ × Call))) → AllZip (AllZip (IsCallOf packets)) ls cs → calls_made cs ≡ lines_in ls
unfolding lines_in
lanes_long packets [] [] h = refl
lanes_long packets [] (c ∷ cs) h = absurd h
lanes_long packets (l ∷ ls) [] h = absurd h
lanes_long packets (l ∷ ls) (c ∷ cs) h = omega (arith, lane_long packets l c h.0, lanes_long packets ls cs h.1)

pub hooks_counted : (before : Counts) (s : Section) (calls : SectionCalls) → AreCalls s calls → (counts_after before s).hooks ≡ before.hooks + calls_made calls.lanes
unfolding weight hook
hooks_counted before s calls are =
    let whole = tallied_weight (λ (t : Tally). t.hooks) hook hooks_step (tally_before before) (section_lines s) in
    let caps = cap_lines s.caps s.capture in
    let lanes = flat_map lane_lines s.lanes in
    omega (
      arith,
      whole,
      parts,
      weight-append hook caps (lanes ++ desk_lines s.desk),
      weight-append hook lanes (desk_lines s.desk),
      caps_hooks s.caps s.capture,
      lanes_hooks s.lanes,
      desk_hooks s.desk,
      lanes_long are.packets s.lanes calls.lanes are.lanes,
    )
  where
    parts : weight hook (section_lines s) ≡ weight hook (cap_lines s.caps s.capture ++ (flat_map lane_lines s.lanes ++ desk_lines s.desk))
    parts = omega arith

pub ending_counted : (before : Counts) (s : Section) (calls : SectionCalls) → AreCalls s calls → (counts_after before s).collections ≡ before.collections + length (collecting calls.desk)
unfolding weight ending
ending_counted before s calls are =
    let whole = tallied_weight (λ (t : Tally). t.collections) ending ending_step (tally_before before) (section_lines s) in
    let caps = cap_lines s.caps s.capture in
    let lanes = flat_map lane_lines s.lanes in
    omega (
      arith,
      whole,
      parts,
      weight-append ending caps (lanes ++ desk_lines s.desk),
      weight-append ending lanes (desk_lines s.desk),
      caps_ending s.caps s.capture,
      lanes_ending s.lanes,
      desk_ending s.desk,
      ap (λ (d : List (ℕ × Command)). length (collecting d)) are.desk,
    )
  where
    parts : weight ending (section_lines s) ≡ weight ending (cap_lines s.caps s.capture ++ (flat_map lane_lines s.lanes ++ desk_lines s.desk))
    parts = omega arith

-- ---- the capture of a section is small

caps_captured : (caps bytes : List ℕ) → sum_of caps ≤ length bytes → weight captured (cap_lines caps bytes) ≡ sum_of caps
unfolding weight captured
caps_captured [] bytes h = refl
caps_captured (n ∷ ns) bytes h =
    let front : length (take n bytes) ≡ n = length-take-le n bytes (omega (arith, h)) in
    let behind : length (drop n bytes) ≡ length bytes - n = length-drop n bytes in
    omega (arith, caps_captured ns (drop n bytes) (omega (arith, h, behind)), front)

lane_captured : (hooks : List (ℕ × LaneLine)) → weight captured (map (λ (h : ℕ × LaneLine). lines.Hook h.1) hooks) ≡ 0
unfolding weight captured
lane_captured [] = refl
lane_captured (h ∷ hs) = omega (arith, lane_captured hs)

chain : (a b c d : Bool) (rest : Option Which) →
    (if a then Some which.Privs else if b then Some which.Ifs else if c then Some which.Sections else if d then Some which.CaptureBytes else rest) ≡ None → d ≡ false
chain true b c d rest e = absurd (cc)
chain false true c d rest e = absurd (cc)
chain false false true d rest e = absurd (cc)
chain false false false true rest e = absurd (cc)
chain false false false false rest e = refl

capture_fits : (t : Tally) (l : Line) → passed t l ≡ None → t.capture ≤ 1048576
capture_fits t l e = let d : nat_lt 1048576 t.capture ≡ false = chain (nat_lt 64 t.privs) (nat_lt 1000 t.ifs) (nat_lt 4096 t.sections) (nat_lt 1048576 t.capture) _ e in grind (arith, d)

kept_capture : (t : Tally) (ls : List Line) → t.capture ≤ 1048576 → KeepLimits t ls → (tallied t ls).capture ≤ 1048576
kept_capture t [] h k = h
kept_capture t (l ∷ ls) h k = kept_capture (added t l) ls (capture_fits (added t l) l k.1.0) k.1.1

pub capture_small : (before : Counts) (s : Section) → IsNextSection before s → length s.capture ≤ 1048576
unfolding weight captured
capture_small before s is =
    let whole = tallied_weight (λ (t : Tally). t.capture) captured capture_step (tally_before before) (section_lines s) in
    let kept = kept_capture (tally_before before) (section_lines s) (omega arith) is.limits in
    let caps = cap_lines s.caps s.capture in
    omega (arith, whole, kept, parts, weight-append captured caps (flat_map lane_lines s.lanes ++ desk_lines s.desk), caps_captured s.caps s.capture (omega (arith, is.section.captured)), is.section.captured)
  where
    parts : weight captured (section_lines s) ≡ weight captured (cap_lines s.caps s.capture ++ (flat_map lane_lines s.lanes ++ desk_lines s.desk))
    parts = omega arith
