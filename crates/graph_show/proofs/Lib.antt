pub mod Examples
pub mod Growing
mod Lines
mod WholeNodes
