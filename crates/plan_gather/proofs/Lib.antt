-- `Laws`: a piece from its parts.
pub mod Laws
