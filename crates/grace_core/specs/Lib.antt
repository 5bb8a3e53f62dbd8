pub mod Machine
pub mod Sums
pub mod Rows
pub mod Good
pub mod Turns
pub mod Phases
