pub mod ReplayCalls
