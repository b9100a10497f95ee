pub mod Runs
pub mod Playing
pub mod Accounts
pub mod Law
pub mod Outcomes
pub mod Handing
