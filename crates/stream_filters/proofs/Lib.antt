pub mod AtOnce
pub mod Before
mod Examples
pub mod Firs
pub mod InTurn
pub mod Lanes
pub mod Lines
pub mod Made
pub mod ManySums
pub mod Outputs
pub mod PlainLists
pub mod Stepped
pub mod Weighted
pub mod WholeLists
pub mod Windows
