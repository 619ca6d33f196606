pub mod Moving
pub mod Sent
pub mod SlotSteps
