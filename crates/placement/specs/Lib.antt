pub mod Moves
pub mod Gaps
pub mod Links
pub mod Follows
