pub mod Holding
pub mod PhaserLimits
pub mod PlaceSteps
