pub mod FlatPool
