pub mod Transits
pub mod Rows
