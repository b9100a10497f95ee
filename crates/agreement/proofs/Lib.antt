mod Follows
mod Keeps
mod Settles
mod Turns
mod Handed
