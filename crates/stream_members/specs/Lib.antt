pub mod AnyMembers
pub mod AnyPhasers
pub mod Members
