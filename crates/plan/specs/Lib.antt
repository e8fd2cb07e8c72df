pub mod DirectMade
pub mod Direct
pub mod Step
