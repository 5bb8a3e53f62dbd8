pub mod Collectors
pub mod Collections
pub mod Deletions
pub mod Lending
pub mod Readiness
pub mod Roomy
