pub mod Signs
pub mod Asked
pub mod Room
pub mod ReadBack
