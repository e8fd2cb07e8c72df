pub mod Plans
pub mod Laws
