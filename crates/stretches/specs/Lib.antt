pub mod Stretches
pub mod Becomes
