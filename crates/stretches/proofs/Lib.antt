pub mod Lanes
pub mod Places
