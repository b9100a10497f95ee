pub mod Calls
pub mod Fronts
pub mod Bytes
pub mod Copies
pub mod Zeroed
pub mod Moved
pub mod Items
