-- A capture in the classic pcap format, version 2.4: a head of 24 bytes, and for each packet a head of 16 bytes and the bytes that
-- were captured. Places are counted in bytes from the start of the file.
use Rattle.std.specs.Prelude.{◌≡◌, ◌⊎◌, ℕ, ◌+◌, ◌-◌, ◌/◌, ◌≤◌, ◌<◌, ◌==◌, ◌||◌, not, nat_lt, if◌then◌else◌, List, [], ◌∷◌, length, map, drop, slice_get, slice_range, Option, None, Some, Result, Ok, Err}
use Rattle.byteorder.specs.Endian.{big_number, little_number}
use Rattle.acct_base.specs.declared.packet.Family.{Family}
use Rattle.acct_base.specs.declared.packet.Family.TheVariants as family
use Rattle.captures.specs.declared.file.Endian.{Endian}
use Rattle.captures.specs.declared.file.Endian.TheVariants.{Big, Little}
use Rattle.captures.specs.declared.file.FileHead.{FileHead}
use Rattle.captures.specs.declared.link.Link.{Link}
use Rattle.captures.specs.declared.link.Link.TheVariants.{Ethernet, RawIp, Cooked, CookedTwo}

-- The number in so many bytes at a place.
abbrev pub number_at : Endian → ℕ → ℕ → List ℕ → ℕ
number_at Big count place bytes = big_number count (drop place bytes)
number_at Little count place bytes = little_number count (drop place bytes)

-- ---- the head of a file

-- The order of the bytes in a file's numbers, by its magic, read highest byte first: for times in microseconds and in nanoseconds.
abbrev pub order_by_magic : ℕ → Option Endian
order_by_magic magic =
    if magic == 0xa1b2c3d4 || magic == 0xa1b23c4d then Some Big
    else if magic == 0xd4c3b2a1 || magic == 0x4d3cb2a1 then Some Little
    else None

-- What stands before the IP header of each packet, by the number of the link type.
abbrev pub link_by_number : ℕ → Option Link
link_by_number number =
    if number == 1 then Some Ethernet
    else if number == 101 then Some RawIp
    else if number == 113 then Some Cooked
    else if number == 276 then Some CookedTwo
    else None

-- The head's numbers behind the magic: the version, in two numbers, and the link type. Zone, accuracy and snap length are not looked at.
abbrev pub head_in_order : Endian → List ℕ → Result FileHead ℕ
head_in_order order bytes =
    if not (number_at order 2 4 bytes == 2) || not (number_at order 2 6 bytes == 4) then Err 4
    else elim (link_by_number (number_at order 4 20 bytes)) [ Some link ↦ Ok (record { order = order; link = link }) | None ↦ Err 20 ]

-- The head of a file, or the place of the first number there that no such file has.
abbrev pub file_head : List ℕ → Result FileHead ℕ
file_head bytes =
    if nat_lt (length bytes) 24 then Err 0
    else elim (order_by_magic (number_at Big 4 0 bytes)) [ Some order ↦ head_in_order order bytes | None ↦ Err 0 ]

-- ---- the heads of packets

-- The head of a packet: when it came, how many of its bytes were captured, and how many it had. Times are not looked at.
pub record PacketHead : Type 0 where
  pub seconds : ℕ
  pub fraction : ℕ
  pub captured : ℕ
  pub original : ℕ

-- The four numbers at a place.
abbrev pub head_at : Endian → List ℕ → ℕ → PacketHead
head_at order bytes place = record {
  seconds = number_at order 4 place bytes;
  fraction = number_at order 4 (place + 4) bytes;
  captured = number_at order 4 (place + 8) bytes;
  original = number_at order 4 (place + 12) bytes;
}

-- At this place a packet goes on: its head is there, no more was captured than there was, and what was captured is there.
pub record GoesOn (order : Endian) (bytes : List ℕ) (place : ℕ) : Type 0 where
  pub head : place + 16 ≤ length bytes
  pub captured : (head_at order bytes place).captured ≤ (head_at order bytes place).original
  pub there : place + 16 + (head_at order bytes place).captured ≤ length bytes

-- The place behind the packet whose head is at this place.
abbrev pub behind : Endian → List ℕ → ℕ → ℕ
behind order bytes place = place + 16 + (head_at order bytes place).captured

-- Packets stand one after another from one place up to another, with their heads at these places.
abbrev pub StandFrom : Endian → List ℕ → ℕ → List ℕ → ℕ → Type 0
StandFrom order bytes from [] to = from ≡ to
StandFrom order bytes from (place ∷ places) to =
    (place ≡ from) × GoesOn order bytes place × StandFrom order bytes (behind order bytes place) places to

-- The bytes are a file with this head, whose packets stand one after another up to the end, with their heads at these places.
pub record IsFile (bytes : List ℕ) (head : FileHead) (places : List ℕ) : Type 0 where
  pub head_is : file_head bytes ≡ Ok head
  pub packets : StandFrom head.order bytes 24 places (length bytes)

-- The file breaks off: behind some packets more bytes stand, and no packet goes on there.
pub record BreaksAt (bytes : List ℕ) (head : FileHead) (places : List ℕ) (place : ℕ) : Type 0 where
  pub head_is : file_head bytes ≡ Ok head
  pub packets : StandFrom head.order bytes 24 places place
  pub more : place < length bytes
  pub broken : GoesOn head.order bytes place → ⊥

-- The bytes are no file, and this is the place of the first head that is none: the file's own, or a packet's.
abbrev pub IsBadAt : List ℕ → ℕ → Type 0
IsBadAt bytes place =
    (file_head bytes ≡ Err place) ⊎ ((head : FileHead) × (places : List ℕ) × BreaksAt bytes head places place)

-- ---- packets

-- What is held of a packet from its IP header on: its family, its length as it was recorded, and the bytes that were captured.
pub record Held : Type 0 where
  pub family : Family
  pub len : ℕ
  pub bytes : List ℕ

abbrev pub family_by_protocol : ℕ → Family
family_by_protocol protocol =
    if protocol == 0x0800 then family.V4 else if protocol == 0x86dd then family.V6 else family.Other

-- The version stands in the high half of the first byte.
abbrev pub family_by_version : Option ℕ → Family
family_by_version None = family.Other
family_by_version (Some byte) =
    if byte / 16 == 4 then family.V4 else if byte / 16 == 6 then family.V6 else family.Other

-- How many bytes stand before the IP header.
abbrev pub link_head : Link → ℕ
link_head Ethernet = 14
link_head RawIp = 0
link_head Cooked = 16
link_head CookedTwo = 20

-- The family of a packet by its captured bytes. The protocol's number has its highest byte first in every file.
abbrev pub link_family : Link → List ℕ → Family
link_family Ethernet captured = family_by_protocol (number_at Big 2 12 captured)
link_family RawIp captured = family_by_version (slice_get captured 0)
link_family Cooked captured = family_by_protocol (number_at Big 2 14 captured)
link_family CookedTwo captured = family_by_protocol (number_at Big 2 0 captured)

-- A packet of so many original bytes, of which these were captured. It is unusable where its link head was not captured whole, or
-- where nothing, or more than 262,144 bytes, are left of its length.
abbrev pub held_of : Link → ℕ → List ℕ → Option Held
held_of link original captured =
    let len = original - link_head link in
    if nat_lt (length captured) (link_head link) || len == 0 || nat_lt 262144 len then None
    else Some (record { family = link_family link captured; len = len; bytes = drop (link_head link) captured })

-- The packet whose head is at a place.
abbrev pub packet_at : FileHead → List ℕ → ℕ → Option Held
packet_at head bytes place =
    held_of head.link (head_at head.order bytes place).original
    (slice_range bytes (place + 16) (behind head.order bytes place))

-- The packets of a capture, in order, with None for each that is unusable.
pub record ArePackets (bytes : List ℕ) (packets : List (Option Held)) : Type 0 where
  pub head : FileHead
  pub places : List ℕ
  pub file : IsFile bytes head places
  pub packets_are : packets ≡ map (packet_at head bytes) places

-- Packet k, from 0: None where there is none, or it is unusable.
abbrev pub usable : Option (Option Held) → Option Held
usable None = None
usable (Some packet) = packet

abbrev pub packet_number : List (Option Held) → ℕ → Option Held
packet_number packets k = usable (slice_get packets k)
