pub mod PoolText
