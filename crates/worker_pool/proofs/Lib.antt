pub mod Sets
pub mod Telling
pub mod Freeing
pub mod Faults
