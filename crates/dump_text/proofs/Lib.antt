pub mod PageLemmas
pub mod CountLemmas
pub mod SeenLemmas
pub mod TotalLemmas
pub mod ConditionLemmas
