pub mod Below
pub mod Counted
mod Decimals
pub mod Ends
pub mod Explaining
pub mod Needed
mod Noting
pub mod Places
mod Putting
mod Slashes
mod TextExamples
mod ThreeTexts
pub mod Finding
