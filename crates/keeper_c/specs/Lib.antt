pub mod Traced
pub mod Told
pub mod Calls
