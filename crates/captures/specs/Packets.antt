-- Packets as the code holds them.
use Rattle.captures.specs.declared.packet.Packet.{Packet}
use Rattle.captures.specs.Pcap.{Held}

-- A packet, without where its bytes lie in memory.
abbrev pub held : Packet → Held
held packet = record { family = packet.family; len = packet.len; bytes = packet.bytes.now }
