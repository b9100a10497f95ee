mod Unchanged
mod Rows
