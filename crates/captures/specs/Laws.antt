-- Captures and sections have one reading.
use Rattle.std.specs.Prelude.{◌≡◌, ◌⊎◌, ℕ, List, Option}
use Rattle.script_text.specs.declared.section.Section.{Section}
use Rattle.captures.specs.Pcap.{Held, ArePackets, IsBadAt}
use Rattle.captures.specs.Calls.{SectionCalls}
use Rattle.captures.specs.Sections.{AreCalls, CaptureIsBad, NoPacketAt}

-- Bytes have one reading as a capture: they are a file with one list of packets, or they are bad at one place.
pub record OneReading : Type 0 where
  -- Bytes are a capture, or they are bad at a place.
  pub reading : (bytes : List ℕ) →
      ((packets : List (Option Held)) × ArePackets bytes packets) ⊎ ((place : ℕ) × IsBadAt bytes place)
  -- Never both.
  pub apart : (bytes : List ℕ) (packets : List (Option Held)) (place : ℕ) → ArePackets bytes packets → IsBadAt bytes place → ⊥
  -- There is one list of packets.
  pub packets : (bytes : List ℕ) (one other : List (Option Held)) → ArePackets bytes one → ArePackets bytes other → one ≡ other
  -- There is one place.
  pub place : (bytes : List ℕ) (one other : ℕ) → IsBadAt bytes one → IsBadAt bytes other → one ≡ other

-- A section has one outcome: its calls, the place where its capture is bad, or the first line that lacks its packet.
pub record OneOutcome : Type 0 where
  -- A section has calls, or one of the two faults.
  pub outcome : (s : Section) →
      ((calls : SectionCalls) × AreCalls s calls)
      ⊎ (((line : ℕ) × (place : ℕ) × CaptureIsBad s line place) ⊎ ((line : ℕ) × NoPacketAt s line))
  -- A section with calls has neither fault.
  pub whole : (s : Section) (calls : SectionCalls) (line place : ℕ) → AreCalls s calls → CaptureIsBad s line place → ⊥
  pub full : (s : Section) (calls : SectionCalls) (line : ℕ) → AreCalls s calls → NoPacketAt s line → ⊥
  -- It never has both.
  pub apart : (s : Section) (line place missing : ℕ) → CaptureIsBad s line place → NoPacketAt s missing → ⊥
  -- There is one list of calls, one place and one line.
  pub calls : (s : Section) (one other : SectionCalls) → AreCalls s one → AreCalls s other → one ≡ other
  pub bad : (s : Section) (line place other there : ℕ) → CaptureIsBad s line place → CaptureIsBad s other there → (line ≡ other) × (place ≡ there)
  pub missing : (s : Section) (one other : ℕ) → NoPacketAt s one → NoPacketAt s other → one ≡ other
