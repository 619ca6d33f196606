pub mod Pieces
pub mod Scans
