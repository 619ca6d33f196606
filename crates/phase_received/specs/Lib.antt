pub mod Received
pub mod Whole
