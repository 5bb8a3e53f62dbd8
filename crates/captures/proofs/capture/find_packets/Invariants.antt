use Rattle.std.proofs.Common.{◌≤◌, ◌-◌, length}
use Rattle.captures.specs.Pcap.{StandFrom}
use Rattle.captures.proofs.capture.find_packets.Given as goal

-- the packets up to the place stand one after another
abbrev pub invariant-loop-place : goal.invariant-loop-place
invariant-loop-place l = StandFrom l.fn.head.order l.bytes 24 l.places l.place × (l.place ≤ length l.bytes)

abbrev pub decreases-loop-place : goal.decreases-loop-place
decreases-loop-place l = length l.bytes - l.place
