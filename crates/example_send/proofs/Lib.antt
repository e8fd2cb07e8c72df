-- `Laws`: what the two calls give together.
pub mod Laws
