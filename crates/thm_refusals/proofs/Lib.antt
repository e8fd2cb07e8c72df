-- `Answers`, `Gathered`: what a connection call never answers, and what gathering leaves of it. `Exactly`, `Refusals`: the claims of
-- specs/Refusals.
pub mod Answers
pub mod Gathered
pub mod Refusals
pub mod Exactly
