pub mod Codeword
pub mod Lawful
pub mod Heads
