pub mod ProducedLaws
pub mod Laws
