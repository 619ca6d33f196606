pub mod Cutting
pub mod Going
pub mod Keeping
pub mod LongLine
pub mod Noted
pub mod Owing
pub mod Reading
pub mod ReplayedLemmas
mod Examples
pub mod Obeying
pub mod Operations
pub mod Scripted
pub mod Short
mod Stopping
