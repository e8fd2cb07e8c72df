-- `Moves`: claims 1 and 3 of specs/Resilience; `Linked`: 2; `Messages`: 4; `Sends`: 3, of link send; `Counts`: 5; `Validates`: 6.
pub mod Moves
pub mod Linked
pub mod Messages
pub mod Sends
pub mod Counts
pub mod Validates
