pub mod CountLemmas
pub mod FoundLemmas
pub mod FrontLemmas
pub mod MergeLemmas
