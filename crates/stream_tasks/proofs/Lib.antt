mod Allowing
mod Holding
mod Taking
pub mod Keeping
mod Shares
mod OneInputs
mod DealWaits
mod JoinSteps
mod JoinTurns
mod JoinMoments
mod JoinBlocks
mod Dealing
mod Turning
mod Waiting
mod DealStates
mod Decimating
mod KeptStates
mod JoinStates
mod JoinShares
mod EndingLemmas
mod Gone
mod ChildHolds
mod ChildAdded
mod ChildRegisters
mod ChildJoinsNow
mod Seeding
mod Standing
mod StillRegistering
mod Delivering
mod FoundingLemmas
mod Rows
pub mod Added
pub mod Agreed
pub mod EndEnding
pub mod Gathered
pub mod TakingIn
