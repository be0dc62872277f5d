pub mod Booleans
pub mod Numbers
pub mod Parts
pub mod Effects
pub mod Loops
pub mod Ranges
