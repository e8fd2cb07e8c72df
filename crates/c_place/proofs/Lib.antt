-- `Steps`: the parts of a place. `Agree`: the number says what the rules' place says. `Laws`: what the proofs cite, and the contract.
pub mod Steps
pub mod Agree
pub mod Laws
