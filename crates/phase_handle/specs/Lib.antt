pub mod Phasers
pub mod Places
