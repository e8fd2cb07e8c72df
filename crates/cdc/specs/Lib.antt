pub mod Cdc
