pub mod MovingLaws
pub mod Laws
pub mod Returns
