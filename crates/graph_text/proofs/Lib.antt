mod Answered
mod Examples
mod Fronts
mod Kept
pub mod Spelled
mod Taken
