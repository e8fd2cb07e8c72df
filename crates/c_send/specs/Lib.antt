pub mod TableLeft
pub mod DirectSend
