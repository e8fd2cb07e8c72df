pub mod Finishing
pub mod DirectFinish
