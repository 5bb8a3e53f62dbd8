pub mod ListLemmas
pub mod LaneLemmas
pub mod GatherLemmas
pub mod DeskLemmas
pub mod Bounds
pub mod SectionLemmas
pub mod StepLemmas
pub mod SeatLemmas
