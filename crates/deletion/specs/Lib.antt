pub mod Leaving
pub mod Closing
