pub mod Graphs
pub mod GraphFields
pub mod Names
pub mod Registrations
pub mod TaskLines
