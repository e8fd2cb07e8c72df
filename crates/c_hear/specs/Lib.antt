pub mod TableLeft
pub mod DirectHear
