pub mod Loaded
pub mod Saved
