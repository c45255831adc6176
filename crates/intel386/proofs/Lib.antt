pub mod Arguments
pub mod Places
pub mod Lawful
pub mod Moved
pub mod Extending
pub mod Cases
pub mod Theorems
