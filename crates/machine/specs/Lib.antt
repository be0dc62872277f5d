pub mod Acts
pub mod Effects
pub mod Machine
pub mod Fits
