pub mod Asking
pub mod Nothing
