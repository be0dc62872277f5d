pub mod Numbers
pub mod Books
pub mod Fits
