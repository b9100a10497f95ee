mod Levels
mod Labels
