mod Examples
pub mod Numbers
pub mod OperationWords
mod Ascii
mod WordExamples
