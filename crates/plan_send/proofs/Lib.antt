pub mod Steps
pub mod TransmittedSteps
