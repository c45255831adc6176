pub mod Meant
pub mod Kept
pub mod Needed
pub mod Registers
