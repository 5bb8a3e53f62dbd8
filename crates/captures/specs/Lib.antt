pub mod Pcap
pub mod Packets
pub mod Calls
pub mod Honest
pub mod Runs
pub mod Laws
pub mod Sections
pub mod Lent
