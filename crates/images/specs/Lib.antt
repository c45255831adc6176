pub mod Words
pub mod Asks
