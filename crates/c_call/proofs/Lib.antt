-- `Laws`: a link's view, from its parts. `Theorem`: every call has a number.
pub mod Laws
pub mod Theorem
