-- `Places`, `Inbound`, `Journals`: what is said of a slot and its record and element over one turn; `Noted`, `Followed`: over each call,
-- and all; `HandedOut`: how what is said grows. `Positions`, `Unwritten`: the claims of specs/Positions.
pub mod Places
pub mod Inbound
pub mod Journals
pub mod Noted
pub mod Followed
pub mod HandedOut
pub mod Positions
pub mod Unwritten
