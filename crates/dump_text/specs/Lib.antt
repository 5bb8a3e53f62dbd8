pub mod Dump
pub mod Pages
pub mod Room
pub mod Forms
