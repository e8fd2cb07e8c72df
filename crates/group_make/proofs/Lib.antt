-- `Laws`: what holds of any call, and what the search, the step of one record and the store give together.
pub mod Laws
