pub mod Laws
pub mod SlotsLaws
