mod Examples
mod Files
mod Readers
pub mod Registered
