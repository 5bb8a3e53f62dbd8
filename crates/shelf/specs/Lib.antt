pub mod Kept
pub mod Counted
pub mod Shelved
pub mod Phases
pub mod Room
pub mod Shown
pub mod Merged
