pub mod Packing
pub mod Remainders
pub mod Turns
