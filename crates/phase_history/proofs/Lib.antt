mod Examples
mod LimitExamples
mod OthersExamples
mod SentExamples
pub mod Each
pub mod MemberLemmas
pub mod Refused
pub mod Steps
pub mod Streams
pub mod Received
pub mod LawProofs
pub mod Bounded
pub mod Alive
pub mod Standstill
pub mod OthersEvents
pub mod Used
pub mod Descent
pub mod Answered
pub mod Gathered
pub mod OneSender
pub mod Sendable
pub mod Sendings
pub mod Signallers
pub mod InRange
pub mod Beginnings
pub mod Tops
pub mod Left
pub mod BlockAnswers
pub mod BlockSignals
pub mod BlockLeaves
pub mod Accepted
