pub mod Saves
pub mod Makes
pub mod SameRow
pub mod Loads
