pub mod Lent
pub mod Evaluations
pub mod Names
pub mod Refusals
pub mod Told
pub mod SinkValues
pub mod Filtered
pub mod Formed
