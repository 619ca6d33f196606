mod Examples
pub mod Orders
pub mod Parts
pub mod SumBounds
