mod Begin
pub mod Moves
pub mod Search
pub mod Merges
pub mod Links
pub mod Finds
pub mod Steps
pub mod Tail
pub mod Rooms
