pub mod SetupText
