pub mod Marks
pub mod Tiles
pub mod Arrays
