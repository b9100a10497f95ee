pub mod Replies
pub mod Fronts
