-- `Bytes`: a store into an element, and a ring read of one. `ReceivingLaws`: each call, from what its parts gave.
pub mod EndingLaws
pub mod Bytes
pub mod ReceivingLaws
pub mod SendingLaws
pub mod Laws
