pub mod Faults
pub mod Files
pub mod Prefix
pub mod States
pub mod Statuses
pub mod Watched
