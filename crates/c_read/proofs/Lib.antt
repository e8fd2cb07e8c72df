-- `Agree`: a reading says what the rules' read says. `Laws`: what the proofs cite, and the contract.
pub mod Agree
pub mod Laws
