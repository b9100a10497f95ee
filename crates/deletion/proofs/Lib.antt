mod Runs
mod Moved
mod Behind
mod Shown
mod Deletes
