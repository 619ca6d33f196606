pub mod Composing
pub mod Parts
pub mod Results
