-- `Agree`: a sending says what the rules' send says. `Laws`: what the proofs cite, and the contract.
pub mod Agree
pub mod Laws
