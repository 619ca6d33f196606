pub mod Cuts
pub mod Counting
pub mod Naming
pub mod Writing
pub mod Streams
pub mod Forms
