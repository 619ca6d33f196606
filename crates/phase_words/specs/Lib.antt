pub mod AtTerminal
pub mod Answers
pub mod CommandLine
pub mod ClapErrors
pub mod Outputs
pub mod RunLine
pub mod SinkLine
pub mod StreamLine
