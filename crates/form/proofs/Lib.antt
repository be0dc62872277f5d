pub mod CheckedLanes
pub mod Started
