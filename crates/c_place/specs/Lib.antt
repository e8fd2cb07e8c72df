pub mod Placing
pub mod DirectPlace
