mod Codes
pub mod Giving
mod Reading
pub mod Writing
pub mod Items
