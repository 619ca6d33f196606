pub mod Decls
pub mod WordReading
pub mod Lines
pub mod Plain
pub mod Texts
pub mod Versions
