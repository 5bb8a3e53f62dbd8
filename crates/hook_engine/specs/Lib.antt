pub mod Passes
pub mod Tables
pub mod Ends
pub mod EngineInside
pub mod PassInside
pub mod RoomInside
pub mod Steps
