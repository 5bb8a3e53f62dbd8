pub mod Prefixes
pub mod Spots
pub mod Keeps
pub mod Truths
pub mod Counts
