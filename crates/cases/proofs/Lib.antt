pub mod Walk
pub mod Quick
pub mod Table
