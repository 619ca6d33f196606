pub mod Places
pub mod Weights
pub mod Kept
pub mod Leasts
