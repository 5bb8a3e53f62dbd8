-- Calls of lines in range are in range.
use Rattle.std.proofs.Common.{◌≡◌, ℕ, zero, suc, ◌+◌, ◌-◌, ◌<◌, ◌≤◌, Bool, true, false, cond, List, [], ◌∷◌, ◌++◌, length, map, drop, Option, Some, None, refl, sym, ap, ◌∙◌, subst, arith, option_map, length-drop, length-take}
use Rattle.std.proofs.lemmas.Bool.Decides.{nat_tests}
use Rattle.std.specs.Prelude.{unwrap_or, slice_range, slice_index}
use Rattle.std.specs.List.{slice_get, AllZip, AllByRecursion, flat_map}
use Rattle.acct_base.specs.declared.packet.Dir.{Dir}
use Rattle.acct_base.specs.Receipts.{Call}
use Rattle.acct_base.specs.Receipts.Call.{Hook, Iface, Allow, Deny}
use Rattle.acct_base.specs.Ranges.{IsCallInRange}
use Rattle.script_text.specs.Lines.{LaneLine, IsLine, AllFit, ascending_uids}
use Rattle.script_text.specs.Parts.{IsSection, lane_lines, cap_lines, desk_lines}
use Rattle.script_text.specs.declared.hook_line.HookLine.TheVariants as lines
use Rattle.script_text.specs.declared.line.Line.TheVariants as script
use Rattle.captures.specs.declared.link.Link.{Link}
use Rattle.captures.specs.declared.file.FileHead.{FileHead}
use Rattle.captures.specs.Pcap.{Held, GoesOn, packet_at, packet_number, held_of, link_head, link_family, head_at, behind}
use Rattle.captures.specs.Calls.{HeadFits, HeadsFit, SectionCalls, IsSectionInRange}
use Rattle.captures.specs.Sections.{AreCalls, ArePacketsOf, IsCallOf, packet_call}
use Rattle.captures.proofs.Standing.{goes_on_at, number_some, number_none}
use Rattle.std.proofs.lemmas.Option.{same_Some}
use Rattle.std.specs.Prelude.{nat_lt, ◌||◌, ◌==◌, All}
use Rattle.std.specs.List.Sorted.{IsStrictlyIncreasing}
use Rattle.desk_core.specs.Ranges.{IsUid, IsInRange}
use Rattle.desk_core.specs.declared.command.Command.{Command}
use Rattle.desk_core.specs.declared.command.Command.TheVariants as command
use Rattle.script_text.specs.declared.section.Section.{Section}

-- ---- packets

-- what a usable packet is
record IsHeldInRange (packet : Held) : Type 0 where
  pub some : 1 ≤ packet.len
  pub most : packet.len ≤ 262144
  pub within : length packet.bytes ≤ packet.len

choice : (b : Bool) (x packet : Held) → cond b None (Some x) ≡ Some packet → (b ≡ false) × (x ≡ packet)
choice true x packet e = cc
choice false x packet e = (refl, cc)

usable_in_range : (link : Link) (original : ℕ) (captured : List ℕ) (packet : Held) → length captured ≤ original →
    held_of link original captured ≡ Some packet → IsHeldInRange packet
usable_in_range link original captured packet within e =
    let len : ℕ = original - link_head link in
    let chosen = choice (nat_lt (length captured) (link_head link) || original - link_head link == 0 || nat_lt 262144 (original - link_head link))
    (record { family = link_family link captured; len = original - link_head link; bytes = drop (link_head link) captured }) packet e in
    let test = chosen.0 in
    let there : link_head link ≤ length captured = grind (arith, nat_tests) in
    let some : 1 ≤ original - link_head link = grind (arith, nat_tests) in
    let most : original - link_head link ≤ 262144 = grind (arith, nat_tests) in
    let left = length-drop (link_head link) captured in
    subst IsHeldInRange chosen.1 (record { some = some; most = most; within = omega (arith, left, within, there) })

at_place : (head : FileHead) (bytes : List ℕ) (place : ℕ) (packet : Held) → GoesOn head.order bytes place → packet_at head bytes place ≡ Some packet → IsHeldInRange packet
at_place head bytes place packet goes e =
    let captured = goes.captured in
    let there = goes.there in
    let taken = length-take ((behind head.order bytes place) - (place + 16)) (drop (place + 16) bytes) in
    usable_in_range head.link (head_at head.order bytes place).original (slice_range bytes (place + 16) (behind head.order bytes place)) packet
    (omega (arith, taken, captured)) e

-- a packet of the section is in range
packet_in_range : (caps capture : List ℕ) (packets : List (Option Held)) (k : ℕ) (packet : Held) → ArePacketsOf caps capture packets →
    packet_number packets k ≡ Some packet → IsHeldInRange packet
packet_in_range [] capture packets k packet are e =
    let none : packet_number packets k ≡ None = ap (λ (ps : List (Option Held)). packet_number ps k) are in
    cc
packet_in_range (cap ∷ caps) capture packets k packet are e =
    by_place (slice_get are.places k) refl
  where
    f : ℕ → Option Held
    f = packet_at are.head capture

    e2 : packet_number (map f are.places) k ≡ Some packet
    e2 = ap (λ (ps : List (Option Held)). packet_number ps k) (sym are.packets_are) ∙ e

    by_place : (o : Option ℕ) → slice_get are.places k ≡ o → IsHeldInRange packet
    by_place None none = let no = number_none f are.places k none in cc
    by_place (Some place) some =
        at_place are.head capture place packet (goes_on_at are.head.order capture 24 are.places (length capture) are.file.packets k place some)
        (sym (number_some f are.places k place some) ∙ e2)

-- ---- calls

-- a call is in range, and so is its head
abbrev pub IsGood : ℕ × Call → Type 0
IsGood c = IsCallInRange c.1 × HeadFits c.1

good_packet : (n : ℕ) (dir : Dir) (uid cookie iface : ℕ) (packet : Option Held) (c : ℕ × Call) → uid ≤ 4294967294 → 1 ≤ iface → iface ≤ 16777215 →
    ((p : Held) → packet ≡ Some p → IsHeldInRange p) →
    option_map (λ (call : Call). (n, call)) (option_map (packet_call dir uid cookie iface) packet) ≡ Some c → IsGood c
good_packet n dir uid cookie iface None c u i j held e = cc
good_packet n dir uid cookie iface (Some p) c u i j held e =
    let range = held p refl in
    subst IsGood (same_Some (n, packet_call dir uid cookie iface p) c e)
    (record { uid = omega (arith, u); some_iface = i; iface = j; some_len = range.some; len = range.most }, range.within)

good : (caps capture : List ℕ) (packets : List (Option Held)) → ArePacketsOf caps capture packets →
    (n : ℕ) (l : LaneLine) (c : ℕ × Call) → IsLine (script.Hook l) → IsCallOf packets (n, l) c → IsGood c
good caps capture packets are n (lines.Hook dir family uid iface len cookie head) c fits e =
    let u = fits.1.0.most_is in
    let i = fits.1.1.1.0.least_is in
    let j = fits.1.1.1.0.most_is in
    let m = fits.1.1.1.1.1.0.least_is in
    let k = fits.1.1.1.1.1.0.most_is in
    subst IsGood (same_Some (n, Hook (record { dir = dir; sock_uid = uid; cookie = cookie; iface = iface; family = family; len = len; head = head })) c e)
    (record { uid = omega (arith, u); some_iface = i; iface = j; some_len = m; len = k }, fits.1.1.1.1.1.1.0.within)
good caps capture packets are n (lines.Packet dir uid iface index cookie) c fits e =
    good_packet n dir uid cookie iface (packet_number packets index) c fits.1.0.most_is fits.1.1.1.0.least_is fits.1.1.1.0.most_is
    (λ p is. packet_in_range caps capture packets index p are is) e
good caps capture packets are n (lines.Iface call) c fits e =
    let u = fits.1.0.most_is in
    subst IsGood (same_Some (n, Iface call) c e)
    (record { uid = omega (arith, u); some_iface = fits.1.1.0.least_is; iface = fits.1.1.0.most_is; some_len = fits.1.1.1.1.0.least_is; len = fits.1.1.1.1.0.most_is }, tt)
good caps capture packets are n (lines.Allow received uid cookie) c fits e =
    let u = fits.1.0.most_is in
    subst IsGood (same_Some (n, Allow uid cookie received) c e) (omega (arith, u), tt)
good caps capture packets are n (lines.Deny uid) c fits e =
    let u = fits.1.0.most_is in
    subst IsGood (same_Some (n, Deny uid) c e) (omega (arith, u), tt)

-- ---- lanes

all_right : {X : Type 0} (P : X → Type 0) (xs ys : List X) → AllByRecursion P (xs ++ ys) → AllByRecursion P ys
all_right P [] ys all = all
all_right P (x ∷ xs) ys all = all_right P xs ys all.1

all_left : {X : Type 0} (P : X → Type 0) (xs ys : List X) → AllByRecursion P (xs ++ ys) → AllByRecursion P xs
all_left P [] ys all = tt
all_left P (x ∷ xs) ys all = (all.0, all_left P xs ys all.1)

good_lane : (caps capture : List ℕ) (packets : List (Option Held)) → ArePacketsOf caps capture packets →
    (lane : List (ℕ × LaneLine)) (calls : List (ℕ × Call)) → AllByRecursion IsLine (map (λ (h : ℕ × LaneLine). script.Hook h.1) lane) →
    AllZip (IsCallOf packets) lane calls → AllByRecursion IsGood calls
good_lane caps capture packets are [] [] fits zip = tt
good_lane caps capture packets are [] (c ∷ cs) fits zip = absurd zip
good_lane caps capture packets are (l ∷ ls) [] fits zip = absurd zip
good_lane caps capture packets are (l ∷ ls) (c ∷ cs) fits zip =
    (good caps capture packets are l.0 l.1 c fits.0 zip.0, good_lane caps capture packets are ls cs fits.1 zip.1)

good_lanes : (caps capture : List ℕ) (packets : List (Option Held)) → ArePacketsOf caps capture packets →
    (lanes : List (List (ℕ × LaneLine))) (calls : List (List (ℕ × Call))) → AllByRecursion IsLine (flat_map lane_lines lanes) →
    AllZip (AllZip (IsCallOf packets)) lanes calls → AllByRecursion (AllByRecursion IsGood) calls
good_lanes caps capture packets are [] [] fits zip = tt
good_lanes caps capture packets are [] (c ∷ cs) fits zip = absurd zip
good_lanes caps capture packets are (l ∷ ls) [] fits zip = absurd zip
good_lanes caps capture packets are (l ∷ ls) (c ∷ cs) fits zip = (
  good_lane caps capture packets are l c (all_left IsLine (lane_lines l) (flat_map lane_lines ls) fits).1 zip.0,
  good_lanes caps capture packets are ls cs (all_right IsLine (lane_lines l) (flat_map lane_lines ls) fits) zip.1,
)

-- the lines of a section's lanes and of its desk are in range
lanes_fit : (s : Section) → IsSection s → AllByRecursion IsLine (flat_map lane_lines s.lanes)
lanes_fit s is =
    all_left IsLine (flat_map lane_lines s.lanes) (desk_lines s.desk)
    (all_right IsLine (cap_lines s.caps s.capture) (flat_map lane_lines s.lanes ++ desk_lines s.desk) is.fits.1)

desk_fits : (s : Section) → IsSection s → AllByRecursion IsLine (desk_lines s.desk)
desk_fits s is =
    all_right IsLine (flat_map lane_lines s.lanes) (desk_lines s.desk)
    (all_right IsLine (cap_lines s.caps s.capture) (flat_map lane_lines s.lanes ++ desk_lines s.desk) is.fits.1)

all_first : {X : Type 0} (P Q : X → Type 0) (xs : List X) → AllByRecursion (λ x. P x × Q x) xs → AllByRecursion P xs
all_first P Q [] all = tt
all_first P Q (x ∷ xs) all = (all.0.0, all_first P Q xs all.1)

all_second : {X : Type 0} (P Q : X → Type 0) (xs : List X) → AllByRecursion (λ x. P x × Q x) xs → AllByRecursion Q xs
all_second P Q [] all = tt
all_second P Q (x ∷ xs) all = (all.0.1, all_second P Q xs all.1)

lanes_in_range : (calls : List (List (ℕ × Call))) → AllByRecursion (AllByRecursion IsGood) calls →
    AllByRecursion (AllByRecursion (λ (c : ℕ × Call). IsCallInRange c.1)) calls
lanes_in_range [] all = tt
lanes_in_range (c ∷ cs) all = (all_first (λ (c : ℕ × Call). IsCallInRange c.1) (λ (c : ℕ × Call). HeadFits c.1) c all.0, lanes_in_range cs all.1)

heads_fit : (calls : List (List (ℕ × Call))) → AllByRecursion (AllByRecursion IsGood) calls →
    AllByRecursion (AllByRecursion (λ (c : ℕ × Call). HeadFits c.1)) calls
heads_fit [] all = tt
heads_fit (c ∷ cs) all = (all_second (λ (c : ℕ × Call). IsCallInRange c.1) (λ (c : ℕ × Call). HeadFits c.1) c all.0, heads_fit cs all.1)

-- ---- the desk

-- uids that ascend
uids_below : (from : ℕ) (uids : List ℕ) → AllFit (ascending_uids from uids) → All IsUid uids
uids_below from [] fits k d h = absurd (omega (arith, h))
uids_below from (u ∷ us) fits zero d h = let m = fits.0.most_is in omega (arith, m)
uids_below from (u ∷ us) fits (suc k) d h = uids_below (u + 1) us fits.1 k d (omega (arith, h))

uids_ascend : (from : ℕ) (uids : List ℕ) → AllFit (ascending_uids from uids) → IsStrictlyIncreasing uids
uids_ascend from [] fits k h = absurd (omega (arith, h))
uids_ascend from (u ∷ []) fits k h = absurd (omega (arith, h))
uids_ascend from (u ∷ v ∷ us) fits zero h = let m = fits.1.0.least_is in omega (arith, m)
uids_ascend from (u ∷ v ∷ us) fits (suc k) h =
    let next : suc (k + 1) ≡ suc k + 1 = omega arith in
    subst (λ (n : ℕ). slice_index (u ∷ v ∷ us) (suc k) < slice_index (u ∷ v ∷ us) n) next
    (uids_ascend (u + 1) (v ∷ us) fits.1 k (omega (arith, h)))

command_in_range : (c : Command) → IsLine (script.Command c) → IsInRange c
command_in_range (command.Tag caller cookie uid tag) fits =
    let a = fits.1.0.most_is in let b = fits.1.1.1.0.most_is in let t = fits.1.1.1.1.0.most_is in
    (omega (arith, a), omega (arith, b), omega (arith, t))
command_in_range (command.Untag cookie) fits = tt
command_in_range (command.Set caller uid set) fits =
    let a = fits.1.0.most_is in let b = fits.1.1.0.most_is in (omega (arith, a), omega (arith, b))
command_in_range (command.Delete caller uid tag) fits =
    let a = fits.1.0.most_is in let b = fits.1.1.0.most_is in (omega (arith, a), omega (arith, b))
command_in_range (command.Add uid b iface) fits =
    let a = fits.1.0.most_is in (omega (arith, a), fits.1.1.1.0.most_is)
command_in_range (command.Remove uid b) fits = let a = fits.1.0.most_is in omega (arith, a)
command_in_range (command.Toggle c on) fits = tt
command_in_range (command.Firewall c uid allow) fits = let a = fits.1.1.0.most_is in omega (arith, a)
command_in_range (command.Replace c uids) fits = (uids_below 0 uids fits.1.1, uids_ascend 0 uids fits.1.1)
command_in_range command.Collect fits = tt

commands_in_range : (commands : List (ℕ × Command)) → AllByRecursion IsLine (map (λ (c : ℕ × Command). script.Command c.1) commands) →
    AllByRecursion (λ (c : ℕ × Command). IsInRange c.1) commands
commands_in_range [] fits = tt
commands_in_range (c ∷ cs) fits = (command_in_range c.1 fits.0, commands_in_range cs fits.1)

desk_in_range : (desk : Option (List (ℕ × Command))) → AllByRecursion IsLine (desk_lines desk) →
    AllByRecursion (λ (c : ℕ × Command). IsInRange c.1) (unwrap_or desk [])
desk_in_range None fits = tt
desk_in_range (Some commands) fits = commands_in_range commands fits.1

-- ---- the section

pub section_in_range : (s : Section) (calls : SectionCalls) → IsSection s → AreCalls s calls → IsSectionInRange calls
section_in_range s calls is are = record {
  lanes = lanes_in_range calls.lanes (good_lanes s.caps s.capture are.packets are.packets_are s.lanes calls.lanes (lanes_fit s is) are.lanes);
  desk = subst (AllByRecursion (λ (c : ℕ × Command). IsInRange c.1)) (sym are.desk) (desk_in_range s.desk (desk_fits s is));
}

pub section_heads_fit : (s : Section) (calls : SectionCalls) → IsSection s → AreCalls s calls → HeadsFit calls
section_heads_fit s calls is are =
    heads_fit calls.lanes (good_lanes s.caps s.capture are.packets are.packets_are s.lanes calls.lanes (lanes_fit s is) are.lanes)
