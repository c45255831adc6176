pub mod Texts
pub mod Parts
pub mod Steps
pub mod After
