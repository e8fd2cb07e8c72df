pub mod LinkstateLaws
pub mod OpeningLaws
pub mod Laws
