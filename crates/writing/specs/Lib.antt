pub mod Texts
pub mod Parts
pub mod Asks
pub mod After
