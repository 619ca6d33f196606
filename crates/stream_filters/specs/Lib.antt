pub mod Filter
pub mod FilterFields
pub mod Lanes
pub mod Range
pub mod Sums
pub mod Turns
pub mod WeigherFields
pub mod Weighing
