pub mod Words
pub mod Bytes
pub mod Members
pub mod Rests
pub mod Answers
pub mod Edits
pub mod Parts
