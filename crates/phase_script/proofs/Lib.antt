pub mod BlockValues
pub mod CutAtLf
pub mod Digits
pub mod Grammar
pub mod ReplyLines
