pub mod Raises
pub mod Openings
