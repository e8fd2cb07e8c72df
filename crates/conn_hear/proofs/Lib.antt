pub mod HeardLaws
pub mod Laws
