pub mod Coherence
