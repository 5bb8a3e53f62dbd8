pub mod Serial
pub mod Sound
pub mod Ledgers
pub mod Charging
pub mod Kept
pub mod Ending
pub mod Walks
pub mod Laws
