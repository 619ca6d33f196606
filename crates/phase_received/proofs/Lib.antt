pub mod Wholes
pub mod Lists
pub mod Kept
pub mod Blocks
