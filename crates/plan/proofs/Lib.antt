pub mod DirectMadeLaws
pub mod Laws
pub mod Steps
pub mod Tested
pub mod Does
