pub mod LinkDesk
pub mod LinkRows
