pub mod FlatSetup
