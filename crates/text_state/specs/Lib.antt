pub mod World
