pub mod Weights
pub mod Same
