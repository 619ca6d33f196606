pub mod Commands
pub mod Cuts
pub mod Lines
pub mod Numbers
pub mod ReplyLines
pub mod Words
