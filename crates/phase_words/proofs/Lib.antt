pub mod Answering
mod Called
mod Conflicts
pub mod NoCalls
mod OutputKinds
mod Refused
mod Simple
mod Workers
