-- The calls of a section: each line of its lanes makes one, and a packet line takes its packet from the section's capture.
use Rattle.std.specs.Prelude.{◌≡◌, ◌≢◌, ℕ, ◌+◌, Bool, false, List, [], ◌∷◌, Option, None, Some, option_map, option_copied, unwrap_or, is_none, find, if◌then◌else◌}
use Rattle.std.specs.Borrow.{Bor}
use Rattle.std.specs.List.{AllZip, AllByRecursion, flat_map, filter_map}
use Rattle.acct_base.specs.declared.packet.Dir.{Dir}
use Rattle.acct_base.specs.Receipts.{Call}
use Rattle.acct_base.specs.Receipts.Call.{Hook, Iface, Allow, Deny}
use Rattle.script_text.specs.Lines.{LaneLine}
use Rattle.script_text.specs.declared.hook_line.HookLine.TheVariants as lines
use Rattle.script_text.specs.declared.section.Section.{Section}
use Rattle.captures.specs.Pcap.{Held, ArePackets, IsBadAt, packet_number}
use Rattle.captures.specs.Calls.{SectionCalls}

-- The packets of a section with such capture lines: those of its capture. Without capture lines it has none.
abbrev pub ArePacketsOf : List ℕ → List ℕ → List (Option Held) → Type 0
ArePacketsOf [] capture packets = packets ≡ []
ArePacketsOf (cap ∷ caps) capture packets = ArePackets capture packets

-- A captured packet at a hook.
abbrev pub packet_call : Dir → ℕ → ℕ → ℕ → Held → Call
packet_call dir sock_uid cookie iface packet = Hook (record {
  dir = dir;
  sock_uid = sock_uid;
  cookie = cookie;
  iface = iface;
  family = packet.family;
  len = packet.len;
  head = packet.bytes;
})

-- The call of a line. None where its packet is not there, or is unusable.
abbrev pub call_by : List (Option Held) → LaneLine → Option Call
call_by packets (lines.Hook dir family sock_uid iface len cookie head) = Some (Hook (record {
  dir = dir;
  sock_uid = sock_uid;
  cookie = cookie;
  iface = iface;
  family = family;
  len = len;
  head = head;
}))
call_by packets (lines.Packet dir sock_uid iface index cookie) = option_map (packet_call dir sock_uid cookie iface) (packet_number packets index)
call_by packets (lines.Iface call) = Some (Iface call)
call_by packets (lines.Allow received sock_uid cookie) = Some (Allow sock_uid cookie received)
call_by packets (lines.Deny sock_uid) = Some (Deny sock_uid)

-- The same with the number of the line.
abbrev pub line_call : List (Option Held) → ℕ × LaneLine → Option (ℕ × Call)
line_call packets l = option_map (λ (call : Call). (l.0, call)) (call_by packets l.1)

-- The call is the line's.
abbrev pub IsCallOf : List (Option Held) → ℕ × LaneLine → ℕ × Call → Type 0
IsCallOf packets l call = line_call packets l ≡ Some call

-- What a section asks for: each line of each lane makes its call, in order, and the desk has its commands.
pub record AreCalls (section : Section) (calls : SectionCalls) : Type 0 where
  pub packets : List (Option Held)
  pub packets_are : ArePacketsOf section.caps section.capture packets
  pub lanes : AllZip (AllZip (IsCallOf packets)) section.lanes calls.lanes
  pub desk : calls.desk ≡ unwrap_or section.desk []

-- ---- faults

-- The section's capture is none: the place where it leaves the format, and the first of the section's capture lines, which follows the
-- line that begins the section.
pub record CaptureIsBad (section : Section) (line place : ℕ) : Type 0 where
  pub captured : section.caps ≢ []
  pub line_is : line ≡ section.first + 1
  pub bad : IsBadAt section.capture place

-- The lines of all lanes, in order.
abbrev pub all_lines : List (List (ℕ × LaneLine)) → List (ℕ × LaneLine)
all_lines lanes = flat_map (λ lane. lane) lanes

-- The line's packet is not there, or is unusable.
abbrev pub lacks_packet : List (Option Held) → ℕ × LaneLine → Bool
lacks_packet packets l = is_none (call_by packets l.1)

-- The number of a line, where it lacks its packet.
abbrev pub lacking : List (Option Held) → ℕ × LaneLine → Option ℕ
lacking packets l = if lacks_packet packets l then Some l.0 else None

-- The number of the first of these lines that lacks its packet.
abbrev pub first_lacking : List (Option Held) → List (ℕ × LaneLine) → Option ℕ
first_lacking packets lines = option_map (λ (l : ℕ × LaneLine). l.0) (find (lacks_packet packets) lines)

-- The section has a line that lacks its packet, and this is the first.
pub record NoPacketAt (section : Section) (line : ℕ) : Type 0 where
  pub packets : List (Option Held)
  pub packets_are : ArePacketsOf section.caps section.capture packets
  pub first : first_lacking packets (all_lines section.lanes) ≡ Some line

-- ---- as code holds them

-- The calls of lines which have their packets.
abbrev pub calls_in : List (Option Held) → List (ℕ × LaneLine) → List (ℕ × Call)
calls_in packets lines = filter_map (line_call packets) lines

-- Each of the lines has its packet, where it takes one.
abbrev pub HavePackets : List (Option Held) → List (ℕ × LaneLine) → Type 0
HavePackets packets lines = AllByRecursion (λ (l : ℕ × LaneLine). lacks_packet packets l ≡ false) lines

-- The packets of a capture that may be lent.
abbrev pub lent_packets : Option (Bor (List (Option Held))) → List (Option Held)
lent_packets capture = unwrap_or (option_copied capture) []
