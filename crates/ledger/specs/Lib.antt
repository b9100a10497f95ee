pub mod Trees
pub mod Lists
pub mod Doors
pub mod Deeds
pub mod Ledger
pub mod Needs
pub mod Runs
pub mod Laws
