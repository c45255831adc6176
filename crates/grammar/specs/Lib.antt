pub mod Tokens
pub mod Grammar
pub mod Machine
pub mod Statements
pub mod Table
pub mod Prototype
pub mod Meaning
