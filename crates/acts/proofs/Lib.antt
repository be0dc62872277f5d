pub mod Lent
pub mod Found
pub mod Heard
pub mod Hold
pub mod Homes
pub mod Telling
pub mod Asked
