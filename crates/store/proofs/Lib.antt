pub mod Sections
pub mod Frame
pub mod Formed
pub mod Written
pub mod Rows
pub mod Fresh
pub mod Objects
