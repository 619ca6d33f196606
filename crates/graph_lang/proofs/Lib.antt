mod Alls
mod Ends
pub mod Grown
mod Headings
mod KindExamples
mod Known
mod NamesKept
mod NewTask
mod ReadLines
mod Single
mod Sound
mod Wellformed
mod WorkedText
pub mod Commas
pub mod Digits
mod Fields
pub mod PlainLines
mod Shrinks
pub mod Unique
