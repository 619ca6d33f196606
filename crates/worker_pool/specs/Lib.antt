pub mod NumberSets
pub mod EventCounts
pub mod Places
pub mod TaskSets
