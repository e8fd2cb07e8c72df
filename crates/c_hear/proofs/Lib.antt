-- `Agree`: a hearing says what the rules' hear says. `Laws`: what the proofs cite, and the contract.
pub mod Agree
pub mod Laws
