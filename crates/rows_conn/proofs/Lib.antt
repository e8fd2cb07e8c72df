-- `Rules`: the rules, unfolded. The rows are computed by what they are about, a module each, so that one is computed without the others.
pub mod Rules
pub mod Coherent
pub mod Refused
pub mod States
pub mod Sends
pub mod Receives
pub mod Hears
pub mod Ends
pub mod Opens
pub mod Moves
pub mod Zeros
pub mod All
