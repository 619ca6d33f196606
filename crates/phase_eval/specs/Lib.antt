pub mod Ends
pub mod FilterParts
pub mod Texts
