pub mod Limits
pub mod Lists
pub mod Members
pub mod Modes
pub mod Numbers
pub mod OperationWords
pub mod Words
