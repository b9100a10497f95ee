pub mod Refusals
pub mod Traces
pub mod Kinds
pub mod Shapes
pub mod Bookings
