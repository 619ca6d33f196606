pub mod Answers
pub mod Standing
pub mod Ways
pub mod Ends
pub mod Runs
