pub mod AnyMembers
pub mod Calls
pub mod Members
pub mod NumberBlocks
pub mod Places
pub mod Told
