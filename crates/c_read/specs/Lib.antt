pub mod ReadLeft
pub mod DirectRead
