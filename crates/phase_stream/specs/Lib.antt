pub mod Columns
pub mod Ends
pub mod Outputs
pub mod Sources
pub mod Sessions
pub mod Streams
pub mod TableLines
pub mod Tables
